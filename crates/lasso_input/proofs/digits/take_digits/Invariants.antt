use Rattle.std.proofs.Common.{◌≡◌, ◌*◌, take, drop}
use Rattle.hex.specs.Hex.{decode_pairs}
use Rattle.hex.proofs.Pairs.{prepend}
use Rattle.lasso_input.proofs.digits.take_digits.Given as goal

-- the bytes of the blocks before this one are read
abbrev pub invariant-loop-block : goal.invariant-loop-block
invariant-loop-block l = decode_pairs 0 l.digits ≡ prepend (take (l.block * 16) l.bytes) (decode_pairs (2 * (l.block * 16)) (drop (2 * (l.block * 16)) l.digits))

-- the bytes before the index are read
abbrev pub invariant-loop-i : goal.invariant-loop-i
invariant-loop-i l = decode_pairs 0 l.digits ≡ prepend (take l.i l.bytes) (decode_pairs (2 * l.i) (drop (2 * l.i) l.digits))
