use Rattle.std.proofs.Common.{◌≡◌}
use Rattle.lasso_log.proofs.chunks.Chunks.fill.Given as goal

abbrev pub invariant-loop : goal.invariant-loop
invariant-loop g l = (l.text ≡ l.fn.text) × (goal.iterator-loop g).can_next l.iterator' × (goal.iterator-loop g).is_finite l.iterator'
