use Rattle.std.proofs.Common.{ℕ, ◌<◌}
use Rattle.lasso_parts.specs.Arena.{region_at}
use Rattle.lasso_parts.specs.Doubled.{CannotTake}
use Rattle.lasso_parts.proofs.arena.placing.first_to_take.Given as goal

-- the regions before the position can't take the bytes
abbrev pub invariant-loop-at : goal.invariant-loop-at
invariant-loop-at l = (k : ℕ) → k < l.at → CannotTake l.n (region_at l.regions k)
