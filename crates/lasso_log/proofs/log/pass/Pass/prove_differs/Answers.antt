-- Where the log has come to what both have seen, each pass still has the ticket that it had, since both
-- tickets are out. Passes of one number would have one ticket there, and one word can't have two pens.
use Rattle.std.proofs.Common.{◌≡◌, ℕ, sym, ◌∙◌, ap, subst, List, false}
use mathlib.Core.List.{IsPrefix}
use Rattle.logbook.specs.Pages.{Cell, cell, Nib}
use Rattle.lasso_log.specs.Notes.{NoteView, notes_of, ticket_of}
use Rattle.lasso_log.specs.Book.{LogKeepsRule}
use Rattle.lasso_log.specs.Views.{PassView}
use Rattle.lasso_log.specs.Chunks.{first_number}
use Rattle.lasso_log.proofs.Logs.{still_opened}
use Rattle.lasso_log.proofs.log.pass.Pass.prove_differs.Goals as goal

pub returns-clause-numbers : goal.returns-clause-numbers
returns-clause-numbers g c same =
    let me = c.self.inside in
    let them = c.other.inside in
    let one = first_number me.number.numbers in
    let other = first_number them.number.numbers in
    let both = c.learn.new.self.log in
    let mine : IsPrefix me.seen.log both = subst (λ (l : List NoteView). IsPrefix l both) (ap (λ s. s.log) c.again-both.ensures) c.learn.ensures.2 in
    let later : IsPrefix both c.look.new.seen.log = subst (λ (l : List NoteView). IsPrefix l c.look.new.seen.log) (ap (λ s. s.log) c.again-later.ensures) c.look.ensures.4 in
    let last : IsPrefix both c.look-2.new.seen.log = subst (λ (l : List NoteView). IsPrefix l c.look-2.new.seen.log) (ap (λ s. s.log) c.again-last.ensures) c.look-2.ensures.4 in
    let out : (cells : List Cell) × LogKeepsRule g.K.Key.key_at cells c.look.new.seen.log × ((cell cells me.ticket.pen.nib.key).1 ≡ false) = c.look.ensures.5 in
    let out' : (cells : List Cell) × LogKeepsRule g.K.Key.key_at cells c.look-2.new.seen.log × ((cell cells them.ticket.pen.nib.key).1 ≡ false) = c.look-2.ensures.5 in
    let still = still_opened g.K.Key.key_at me.seen.log both c.look.new.seen.log one me.ticket.pen.nib.key c.self.invariant.3 mine later c.self.invariant.2 out in
    let still' = still_opened g.K.Key.key_at them.seen.log both c.look-2.new.seen.log other them.ticket.pen.nib.key c.other.invariant.3 c.learn.ensures.3 last c.other.invariant.2 out' in
    let number : one ≡ other = ap (λ (p : PassView). p.number) c.self.view_is ∙ (same ∙ sym (ap (λ (p : PassView). p.number) c.other.view_is)) in
    let ticket : me.ticket.pen.nib.key ≡ them.ticket.pen.nib.key = c.self.invariant.2 ∙ (sym still.1 ∙ (ap (λ (n : ℕ). ticket_of n (notes_of both)) number ∙ (still'.1 ∙ sym c.other.invariant.2))) in
    c.prove_pens_differ.ensures.4 (ap (λ (p : Nib). p.key) c.look.ensures.3 ∙ (ticket ∙ sym (ap (λ (p : Nib). p.key) c.look-2.ensures.3)))
