use Rattle.std.proofs.Common.{◌≡◌, sym, ◌∙◌, ap, subst, List, [], false}
use mathlib.Core.List.{IsPrefix}
use Rattle.logbook.specs.Pages.{Book, Cell, cell}
use Rattle.lasso_log.specs.Notes.{NoteView, Since, notes_of, ticket_of}
use Rattle.lasso_log.specs.Book.{LogKeepsRule}
use Rattle.lasso_log.specs.Chunks.{first_number}
use Rattle.lasso_log.specs.Views.{InternerId, PassView}
use Rattle.lasso_log.proofs.Logs.{still_opened, tails, legal_opened}
use Rattle.lasso_log.proofs.Tickets.{used_word_later}
use Rattle.lasso_log.proofs.log.pass.Pass.meet_if_same.Given.{Over}
use Rattle.lasso_log.proofs.log.pass.Pass.meet_if_same.Goals as goal

-- its ticket was still out at a later log, so none of the events past what it had seen is its own
facts : (g : Over) (c : goal.After-drop-later g)
    → Since (first_number c.self.inside.number.numbers) (notes_of c.self.inside.seen.log) (notes_of c.learn_if_same.new.seen.log) [] × (ticket_of (first_number c.self.inside.number.numbers) (notes_of c.learn_if_same.new.seen.log) ≡ ticket_of (first_number c.self.inside.number.numbers) (notes_of c.self.inside.seen.log))
facts g c =
    let later = c.look.new.seen.log in
    let more : IsPrefix c.learn_if_same.new.seen.log later = subst (λ (l : List NoteView). IsPrefix l later) (ap (λ s. s.log) c.again-later.ensures) c.look.ensures.4 in
    let out : (cells : List Cell) × LogKeepsRule g.K.Key.key_at cells later × ((cell cells c.self.inside.ticket.pen.nib.key).1 ≡ false) = c.look.ensures.5 in
    still_opened g.K.Key.key_at c.self.inside.seen.log c.learn_if_same.new.seen.log later (first_number c.self.inside.number.numbers) c.self.inside.ticket.pen.nib.key c.self.invariant.3 c.learn_if_same.ensures.2 more c.self.invariant.2 out

pub invariant_of-self : goal.invariant_of-self
invariant_of-self g c =
    let i = c.self.invariant in
    let e = c.learn_if_same.ensures in
    let t = tails c.self.inside.seen.log c.learn_if_same.new.seen.log i.3 e.2 in
    let legal = legal_opened g.K.Key.key_at c.self.inside.seen.log c.learn_if_same.new.seen.log i.3 e.2 e.4 in
    rw (e.0, c.look.ensures.2, c.look.ensures.3) (i.0, used_word_later c.self.inside.seen.book (notes_of c.self.inside.seen.log) (notes_of c.learn_if_same.new.seen.log) c.self.inside.used t.2 i.1, i.2 ∙ sym (facts g c).1, t.0, rw (← t.1) legal, rw (← t.1) i.5, rw (e.1, ← t.1) i.6)

pub returns-clause-since : goal.returns-clause-since
returns-clause-since g c = rw (← c.self.view_is) (facts g c).0

-- what the other has seen begins the new log, if both are of one book
pub returns-clause-other : goal.returns-clause-other
returns-clause-other g c same =
    let log = c.learn_if_same.new.seen.log in
    let one : c.other.inside.seen.book ≡ c.self.inside.seen.book = ap (λ (p : PassView). p.of.book) c.other.view_is ∙ (ap (λ (of : InternerId). of.book) same ∙ sym (ap (λ (p : PassView). p.of.book) c.self.view_is)) in
    let t = tails c.other.inside.seen.log log c.other.invariant.3 (c.learn_if_same.ensures.3 one) in
    subst (λ (p : PassView). IsPrefix p.notes (notes_of log)) c.other.view_is t.2
