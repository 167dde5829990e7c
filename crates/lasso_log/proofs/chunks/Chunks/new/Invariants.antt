use Rattle.std.proofs.Common.{◌≤◌}
use Rattle.std.specs.Prelude.{vec_capacity}
use Rattle.lasso_log.specs.Chunks.{IsNumbered}
use Rattle.lasso_log.proofs.chunks.Chunks.new.Given as goal

abbrev pub invariant-loop-number : goal.invariant-loop-number
invariant-loop-number g l = (l.number-counter ≤ 60) × (60 ≤ vec_capacity l.chunks) × IsNumbered l.number-counter l.chunks.items
