use Rattle.std.proofs.Common.{◌≡◌, Some, sym, ap, ◌∙◌, subst}
use Rattle.std.specs.Prelude.{slice_get}
use Rattle.std.proofs.lemmas.Slice.Eq.{bytes_eq-Decides}
use mathlib.Core.List.{IsPrefix}
use Rattle.lasso_log.specs.Views.{InternerId, SnapshotView, list_of}
use Rattle.lasso_log.proofs.LongerLists.{seen_past}
use Rattle.lasso_log.proofs.log.shared_log.Log.is_text_at.Goals as goal

-- the text at the position is compared, and the pass has then seen the list's history
pub returns-clause-found : goal.returns-clause-found
returns-clause-found g c =
    let list = c.args.list.now in
    let after = c.learn.new.self in
    let of : after.of ≡ list.of = c.learn.ensures.same.1 ∙ (c.requires.of.0 ∙ sym c.requires.of.1) in
    let begins : IsPrefix list.notes after.notes = subst (λ (k : SnapshotView). IsPrefix k.notes after.notes) c.list.view_is c.learn.ensures.known in
    let at : slice_get (list_of list.of list.notes) c.args.position ≡ Some c.args.text.now =
    c.in-Some.ensures ∙ ap Some ((bytes_eq-Decides c.in-Some.there.now c.args.text.now).0 (sym c.if-not-is_same.ensures)) in
    λ is. subst (λ (o : InternerId). slice_get (list_of o after.notes) c.args.position ≡ Some c.args.text.now) (sym of) (seen_past list.of list.notes after.notes c.args.text.now c.args.position begins at)
