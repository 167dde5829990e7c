use Rattle.std.proofs.Common.{◌≡◌, ◌∙◌, ap, length, refl}
use Rattle.lasso_log.specs.Notes.{state}
use Rattle.lasso_log.specs.Views.{list_of}
use Rattle.lasso_shared.proofs.Called.{key_tested}
use Rattle.lasso_shared.proofs.MomentFacts.{contained_absent, contained_idle}
use Rattle.lasso_shared.proofs.PassFacts.{seen_contained}
use Rattle.lasso_shared.proofs.threaded.ThreadedRodeo.contains_key_as.Goals as goal

pub returns-clause-call : goal.returns-clause-call
returns-clause-call g c =
    let o = c.args.self.now.opening in
    let after = c.len-len.new.pass.notes in
    let len : c.len-len.result ≡ length (state o after).texts = c.len-len.ensures.reply ∙ ap (λ of. length (list_of of after)) (c.len-len.ensures.same.1 ∙ c.requires) in
    rw (c.into_usize.ensures, len) (key_tested g.K.Key.key_at o c.args.pass.now.number c.args.pass.now.notes after (g.K.Key.number c.args.key) _ c.len-len.ensures.since refl)

pub returns-clause-present : goal.returns-clause-present
returns-clause-present g c = seen_contained g.K.Key.key_at g.K.Key.number (λ n k e. (g.met.K.Key.made n k e).2) _ _ _ _ _ _ (returns-clause-call g c)

pub returns-clause-absent : goal.returns-clause-absent
returns-clause-absent g c lacks = contained_absent g.K.Key.key_at _ _ _ _ _ _ (returns-clause-call g c) lacks

pub returns-clause-idle : goal.returns-clause-idle
returns-clause-idle g c = contained_idle g.K.Key.key_at _ _ _ _ _ _ (returns-clause-call g c)
