use Rattle.std.proofs.Common.{◌≡◌, take}
use Rattle.lasso_c.specs.Bitmap.{bitmap_of, code_bits}
use Rattle.lasso_c.specs.Layout.{over}
use Rattle.lasso_c.proofs.nulls.put_bits.Given as goal

-- the first bytes are written
abbrev pub invariant-loop-at : goal.invariant-loop-at
invariant-loop-at l = l.bits ≡ over (take l.at (bitmap_of (code_bits l.null l.codes))) l.fn.bits
