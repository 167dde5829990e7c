use Rattle.std.proofs.Common.{◌≡◌, ◌-◌, drop, length}
use Rattle.lasso_c.specs.Bitmap.{byte_of, code_bits}
use Rattle.lasso_c.proofs.nulls.byte_of.Given as goal

-- the byte of the last codes so far
abbrev pub invariant-loop-at : goal.invariant-loop-at
invariant-loop-at l = l.byte ≡ byte_of (drop (length l.codes - l.at) (code_bits l.null l.codes))
