use Rattle.std.proofs.Common.{take}
use Rattle.lasso_single.specs.Codes.{AreCodes}
use Rattle.lasso_columns.proofs.finding.own_codes.Given as goal

-- the texts before the position have these codes
abbrev pub invariant-loop-position : goal.invariant-loop-position
invariant-loop-position g l = AreCodes l.list.texts (take l.position l.list.texts) l.codes.items
