use Rattle.std.proofs.Common.{ℕ, subst}
use Rattle.lasso_log.specs.Replies.{SetLimit, Done}
use Rattle.lasso_log.specs.Calls.{IsCall}
use Rattle.lasso_log.specs.Views.{seen}
use Rattle.lasso_shared.proofs.Called.{replaced}
use Rattle.lasso_shared.proofs.threaded.ThreadedRodeo.set_memory_limits_now_as.Goals as goal

pub returns-clause-call : goal.returns-clause-call
returns-clause-call g c = λ done.
    let o = c.args.self.now.opening in
    let p = c.args.pass.now.number in
    let set = c.set_limit_now-done in
    subst (λ (m : ℕ). IsCall g.K.Key.key_at o (seen c.args.pass.now) (seen set.new.pass) p (SetLimit m) Done) c.max_memory_usage-limit.ensures
    (replaced g.K.Key.key_at o p c.args.pass.now.notes set.new.pass.notes c.max_memory_usage-limit.result (set.ensures.event done))
