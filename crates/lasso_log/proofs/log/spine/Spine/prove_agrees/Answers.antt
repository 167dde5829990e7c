use Rattle.std.proofs.Common.{◌≡◌, sym, ◌∙◌, ap, subst, List, length}
use mathlib.Core.List.{IsPrefix}
use Rattle.lasso_log.specs.History.{Totals}
use Rattle.lasso_log.specs.Notes.{NoteView, state, notes_of, opening_of}
use Rattle.lasso_log.specs.Views.{list_of}
use Rattle.lasso_log.proofs.Logs.{tails}
use Rattle.lasso_log.proofs.Reading.{same_list}
use Rattle.lasso_log.proofs.log.spine.Spine.prove_agrees.Goals as goal

pub returns : goal.returns
returns g c =
    let both = c.learn.new.self.log in
    let mine = c.self.inside.seen.log in
    let other = c.pass.inside.seen.log in
    let one : IsPrefix mine both = subst (λ (l : List NoteView). IsPrefix l both) (ap (λ s. s.log) c.again-both.ensures) c.learn.ensures.2 in
    let a = tails mine both c.self.invariant.0 one in
    let b = tails other both c.pass.invariant.3 c.learn.ensures.3 in
    let opening : opening_of mine ≡ opening_of other = a.1 ∙ sym b.1 in
    let long : length (state (opening_of mine) (notes_of mine)).texts ≡ length (state (opening_of other) (notes_of other)).texts =
    ap (λ s. length (list_of s.of s.notes)) c.self.view_is ∙ (c.requires.1 ∙ sym (ap (λ s. length (list_of s.of s.notes)) c.pass.view_is)) in
    let same = same_list (opening_of mine) (notes_of mine) (notes_of other) (notes_of both) a.2 b.2
    (subst (λ (o : Totals). length (state (opening_of mine) (notes_of mine)).texts ≡ length (state o (notes_of other)).texts) (sym opening) long) in
    rw (← c.self.view_is, ← c.pass.view_is) (subst (λ (o : Totals). (state (opening_of mine) (notes_of mine)).texts ≡ (state o (notes_of other)).texts) opening same)
