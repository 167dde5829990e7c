use Rattle.std.proofs.Common.{◌≡◌}
use Rattle.lasso_log.proofs.log.shared_log.Log.set_limit.Given as goal

-- nothing was done yet
abbrev pub invariant-loop : goal.invariant-loop
invariant-loop g l = (goal.iterator-loop g).can_next l.iterator' × (goal.iterator-loop g).is_finite l.iterator' × (l.pass ≡ l.fn.pass) × (l.spine ≡ l.fn.spine)
