use Rattle.std.proofs.Common.{[]}
use Rattle.lasso_log.specs.Notes.{Since}
use Rattle.lasso_log.specs.Views.{IsSamePass}
use Rattle.lasso_log.proofs.log.shared_log.Log.reserve_older.Given as goal

-- no event of its own was added yet
abbrev pub invariant-loop-number : goal.invariant-loop-number
invariant-loop-number g l = IsSamePass l.pass l.fn.pass × Since l.fn.pass.number l.fn.pass.notes l.pass.notes []
