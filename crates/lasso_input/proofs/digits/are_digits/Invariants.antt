use Rattle.std.proofs.Common.{◌≡◌, ◌*◌, drop}
use Rattle.std.specs.List.{list_all}
use Rattle.hex.specs.Hex.{is_hex_digit}
use Rattle.lasso_input.proofs.digits.are_digits.Given as goal

-- all bytes are digits exactly if those from this block on are
abbrev pub invariant-loop-block : goal.invariant-loop-block
invariant-loop-block l = list_all is_hex_digit (drop (l.block * 16) l.bytes) ≡ list_all is_hex_digit l.bytes

-- all bytes are digits exactly if those from the index on are
abbrev pub invariant-loop-i : goal.invariant-loop-i
invariant-loop-i l = list_all is_hex_digit (drop l.i l.bytes) ≡ list_all is_hex_digit l.bytes
