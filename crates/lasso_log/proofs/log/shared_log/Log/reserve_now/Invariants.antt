use Rattle.std.proofs.Common.{◌-◌, []}
use Rattle.lasso_log.specs.Notes.{Since, state}
use Rattle.lasso_log.specs.Turns.{LackFrom}
use Rattle.lasso_log.specs.Views.{IsSamePass}
use Rattle.lasso_log.proofs.log.shared_log.Log.reserve_now.Given as goal

-- no event of its own was added yet, and none of the newer buckets has room
abbrev pub invariant-loop-newer : goal.invariant-loop-newer
invariant-loop-newer g l =
    IsSamePass l.pass l.fn.pass × Since l.fn.pass.number l.fn.pass.notes l.pass.notes [] × LackFrom (state l.self.opening l.pass.notes) (l.count - l.newer) l.count l.bytes
