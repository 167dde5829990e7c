use Rattle.std.proofs.Common.{take}
use Rattle.lasso_single.specs.Codes.{AddsTexts}
use Rattle.lasso_columns.proofs.decoding.decode_each.Given as goal

-- the codes before the position were decoded
abbrev pub invariant-loop-position : goal.invariant-loop-position
invariant-loop-position g l = AddsTexts l.reader (take l.position l.codes) l.fn.out.items l.out.items
