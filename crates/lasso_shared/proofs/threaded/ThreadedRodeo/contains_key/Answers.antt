use Rattle.std.proofs.Common.{◌≡◌, ◌∙◌, ap, length, refl, [], subst}
use Rattle.lasso_log.specs.History.{IsLegal}
use Rattle.lasso_log.specs.Notes.{history, state}
use Rattle.lasso_log.specs.Views.{InternerId, list_of}
use Rattle.lasso_shared.proofs.Called.{plain, key_tested, unused, seen_alone}
use Rattle.lasso_shared.proofs.threaded.ThreadedRodeo.contains_key.Goals as goal

pub returns-clause-call : goal.returns-clause-call
returns-clause-call g c =
    let o = c.args.self.now.opening in
    let notes = c.snapshot_len-len.new.known.notes in
    let p = unused (history notes) in
    let of : c.snapshot_len-len.new.known.of ≡ c.args.self.now = c.snapshot_len-len.ensures.same ∙ (c.snapshot-known.ensures.0 ∙ c.self.view_is) in
    let len : c.snapshot_len-len.result ≡ length (state o notes).texts = c.snapshot_len-len.ensures.reply ∙ ap (λ x. length (list_of x notes)) of in
    let legal : IsLegal g.K.Key.key_at o (history notes) = subst (λ (x : InternerId). IsLegal g.K.Key.key_at x.opening (history notes)) of c.prove_legal.ensures.legal in
    plain g.K.Key.key_at o p [] notes _ _ refl (rw (c.into_usize.ensures, len) (key_tested g.K.Key.key_at o p [] notes (g.K.Key.number c.args.key) _ (seen_alone notes) refl)) legal
