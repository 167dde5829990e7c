use Rattle.std.proofs.Common.{◌≡◌, ◌∙◌, ap, refl, subst, []}
use Rattle.lasso_log.specs.History.{IsLegal}
use Rattle.lasso_log.specs.Notes.{history, state}
use Rattle.lasso_log.specs.Views.{InternerId, list_of}
use Rattle.std.specs.Prelude.{option_map, slice_get}
use Rattle.lasso_shared.proofs.Called.{plain, resolved, unused, seen_alone}
use Rattle.lasso_shared.proofs.threaded.ThreadedRodeo.try_resolve.Goals as goal

pub returns-clause-call : goal.returns-clause-call
returns-clause-call g c =
    let o = c.args.self.now.opening in
    let notes = c.read_snapshot-found.new.known.notes in
    let p = unused (history notes) in
    let of : c.read_snapshot-found.new.known.of ≡ c.args.self.now = c.read_snapshot-found.ensures.same ∙ (c.snapshot-known.ensures.0 ∙ c.self.view_is) in
    let legal : IsLegal g.K.Key.key_at o (history notes) = subst (λ (x : InternerId). IsLegal g.K.Key.key_at x.opening (history notes)) of c.prove_legal.ensures.legal in
    let text : option_map (λ t. t.now) c.read_snapshot-found.result ≡ slice_get (state o notes).texts (g.K.Key.number c.args.key) =
    c.read_snapshot-found.ensures.reply ∙ (ap (λ x. slice_get (list_of x notes) c.into_usize.result) of ∙ ap (slice_get (state o notes).texts) c.into_usize.ensures) in
    plain g.K.Key.key_at o p [] notes _ _ refl (resolved g.K.Key.key_at o p [] notes (g.K.Key.number c.args.key) _ (seen_alone notes) text) legal
