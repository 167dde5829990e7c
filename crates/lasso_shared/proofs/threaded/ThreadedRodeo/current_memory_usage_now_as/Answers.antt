use Rattle.std.proofs.Common.{◌≡◌, ◌∙◌, ap}
use Rattle.lasso_log.specs.Notes.{state}
use Rattle.lasso_log.specs.Views.{InternerId}
use Rattle.lasso_shared.proofs.Called.{weighed}
use Rattle.lasso_shared.proofs.threaded.ThreadedRodeo.current_memory_usage_now_as.Goals as goal

pub returns-clause-call : goal.returns-clause-call
returns-clause-call g c =
    let o = c.args.self.now.opening in
    let told = c.usage_now in
    let after = told.new.pass.notes in
    let n = c.in-Some.usage in
    let is : n ≡ (state o after).usage = c.in-Some.ensures.reply ∙ ap (λ (of : InternerId). (state of.opening after).usage) c.self.view_is in
    weighed g.K.Key.key_at o c.args.pass.now.number c.args.pass.now.notes after n told.ensures.since is
