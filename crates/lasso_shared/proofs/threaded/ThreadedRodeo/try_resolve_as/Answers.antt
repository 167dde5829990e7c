use Rattle.std.proofs.Common.{◌≡◌, ◌∙◌, ap, slice_get}
use Rattle.std.specs.Prelude.{option_map}
use Rattle.lasso_log.specs.Notes.{state}
use Rattle.lasso_log.specs.Views.{list_of}
use Rattle.lasso_shared.proofs.Called.{resolved}
use Rattle.lasso_shared.proofs.MomentFacts.{resolved_absent, resolved_idle}
use Rattle.lasso_shared.proofs.PassFacts.{seen_resolved}
use Rattle.lasso_shared.proofs.threaded.ThreadedRodeo.try_resolve_as.Goals as goal

pub returns-clause-call : goal.returns-clause-call
returns-clause-call g c =
    let o = c.args.self.now.opening in
    let after = c.read-found.new.pass.notes in
    let text : option_map (λ t. t.now) c.read-found.result ≡ slice_get (state o after).texts (g.K.Key.number c.args.key) =
    c.read-found.ensures.reply ∙ (ap (λ of. slice_get (list_of of after) c.into_usize.result) (c.read-found.ensures.same.1 ∙ c.requires) ∙ ap (slice_get (state o after).texts) c.into_usize.ensures) in
    resolved g.K.Key.key_at o c.args.pass.now.number c.args.pass.now.notes after (g.K.Key.number c.args.key) _ c.read-found.ensures.since text

pub returns-clause-present : goal.returns-clause-present
returns-clause-present g c = seen_resolved g.K.Key.key_at g.K.Key.number (λ n k e. (g.met.K.Key.made n k e).2) _ _ _ _ _ _ (returns-clause-call g c)

pub returns-clause-absent : goal.returns-clause-absent
returns-clause-absent g c none = resolved_absent g.K.Key.key_at _ _ _ _ _ _ (returns-clause-call g c) (ap (option_map (λ t. t.now)) none)

pub returns-clause-idle : goal.returns-clause-idle
returns-clause-idle g c = resolved_idle g.K.Key.key_at _ _ _ _ _ _ (returns-clause-call g c)
