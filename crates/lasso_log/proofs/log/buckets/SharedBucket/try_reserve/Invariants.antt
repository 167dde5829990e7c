use Rattle.std.proofs.Common.{[]}
use Rattle.lasso_log.specs.Notes.{Since}
use Rattle.lasso_log.specs.Views.{IsSamePass}
use Rattle.lasso_log.proofs.log.buckets.SharedBucket.try_reserve.Given as goal

-- no event of its own was added yet
abbrev pub invariant-loop : goal.invariant-loop
invariant-loop g l = (goal.iterator-loop g).can_next l.iterator' × (goal.iterator-loop g).is_finite l.iterator' × IsSamePass l.pass l.fn.pass × Since l.fn.pass.number l.fn.pass.notes l.pass.notes []
