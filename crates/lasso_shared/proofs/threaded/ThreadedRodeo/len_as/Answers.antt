use Rattle.std.proofs.Common.{◌≡◌, ◌∙◌, ap, length}
use Rattle.lasso_log.specs.Notes.{state}
use Rattle.lasso_log.specs.Views.{list_of}
use Rattle.lasso_shared.proofs.Called.{measured}
use Rattle.lasso_shared.proofs.threaded.ThreadedRodeo.len_as.Goals as goal

pub returns-clause-call : goal.returns-clause-call
returns-clause-call g c =
    let o = c.args.self.now.opening in
    let after = c.len-len.new.pass.notes in
    let len : c.len-len.result ≡ length (state o after).texts = c.len-len.ensures.reply ∙ ap (λ of. length (list_of of after)) (c.len-len.ensures.same.1 ∙ c.requires) in
    measured g.K.Key.key_at o c.args.pass.now.number c.args.pass.now.notes after c.len-len.result c.len-len.ensures.since len
