use Rattle.std.proofs.Common.{◌≡◌, ◌*◌, ◌++◌, take, drop}
use Rattle.hex.specs.Hex.{encode_lower}
use Rattle.lasso_input.proofs.digits.put_digits.Given as goal

-- the digits of the blocks before this one are written
abbrev pub invariant-loop-block : goal.invariant-loop-block
invariant-loop-block l = take (2 * (l.block * 16)) l.digits ++ encode_lower (drop (l.block * 16) l.bytes) ≡ encode_lower l.bytes

-- the digits of the bytes before the index are written
abbrev pub invariant-loop-i : goal.invariant-loop-i
invariant-loop-i l = take (2 * l.i) l.digits ++ encode_lower (drop l.i l.bytes) ≡ encode_lower l.bytes
