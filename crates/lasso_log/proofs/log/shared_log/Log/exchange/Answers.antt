use Rattle.std.proofs.Common.{◌≡◌, ◌+◌, refl, sym, ◌∙◌, ap, subst, ℕ, List}
use mathlib.Core.List.{IsPrefix}
use base.Fml.{Incl}
use Rattle.lasso_log.specs.History.{Event, Totals}
use Rattle.lasso_log.specs.Notes.{NoteView, notes_of, ticket_of, opening_of, first_note}
use Rattle.lasso_log.specs.Book.{Moving, May, Lets, IsDone, IsIn, IsUsed, word_of}
use Rattle.lasso_log.specs.Chunks.{IsCellAt, era_named, first_number}
use Rattle.lasso_log.specs.Eras.{life}
use Rattle.lasso_log.specs.Events.{event_of, note_of}
use Rattle.lasso_log.proofs.Histories.{prefix_trans}
use Rattle.lasso_log.proofs.Lengths.{lets_cell_proof}
use Rattle.lasso_log.proofs.Logs.{add_opened, opening_first, added}
use Rattle.lasso_log.proofs.Tickets.{used_last}
use Rattle.lasso_log.proofs.log.shared_log.Log.exchange.Given.{Over}
use Rattle.lasso_log.proofs.log.shared_log.Log.exchange.Goals as goal

pub compare_exchange-found-requires : goal.compare_exchange-found-requires
compare_exchange-found-requires g c =
    let i = c.pass.invariant in
    let offer = c.offered-offer.ensures.offer in
    let e = c.offered-offer.result.ask in
    let gl = c.args.given.now.log in
    let a = c.pass.inside.seen.log in
    let v = c.learn-2.new.self.log in
    let self : c.learn.new.self.book ≡ c.args.self.now.book = c.learn.ensures.0 ∙ (ap (λ s. s.book) c.again-seen.ensures ∙ ap (λ o. o.book) c.self.view_is) in
    let word : c.args.self.now.book ≡ c.args.word.now.book = sym (ap (λ w. w.book) c.requires.of.2) in
    let by : e.by ≡ first_number c.pass.inside.number.numbers = ap (λ (w : NoteView). w.by) offer.1 in
    let event : e.event ≡ event_of c.args.change = ap (λ (w : NoteView). w.event) offer.1 in
    let begun : IsPrefix gl v = prefix_trans gl c.learn.new.self.log v c.learn.ensures.3 c.learn-2.ensures.2 in
    let value : c.pass.inside.ticket.pen.nib.value ≡ 0 = i.0.3 in
    let moving : Moving e.ticket e.event c.args.numbers.word_index 1 c.pass.inside.ticket.pen.nib.value = rw (event, value) (c.requires.may.0 e.ticket) in
    let may : May g.K.Key.key_at (opening_of gl) (notes_of gl) c.args.numbers.word_index c.args.word.now.key c.args.numbers.expected e.event = rw (c.requires.known.1, event) c.requires.may.1 in
    let opening : (first_note gl).opening ≡ c.args.self.now.opening = sym (opening_first gl) ∙ c.requires.known.1 in
    let lets : Lets g.K.Key.key_at (first_note gl) (notes_of gl) c.args.numbers.word_index c.args.word.now.key c.args.numbers.expected e c.offered-offer.result.state =
    rw (offer.1, offer.2) (lets_cell_proof g.K.Key.key_at (first_note gl) (notes_of gl) (note_of (first_number c.pass.inside.number.numbers) (event_of c.args.change) c.args.numbers.position c.pass.inside.ticket.pen.nib.key c.next_ticket-next.result.pen.nib.key) c.args.numbers.word_index c.args.word.now.key c.args.numbers.expected c.args.cell_proof
    (λ f. f.1.value.text) (λ f. IsCellAt c.args.self.now.chunks c.args.numbers.position f.0.of f.0.value.items f.1.of) (λ f. Incl (life (era_named c.args.self.now.chunks)) f.1.value.until) refl (rw opening c.requires.cell_proof)) in (
      ap (λ w. w.tracked) c.requires.of.2,
      c.learn-2.ensures.0 ∙ (self ∙ word),
      i.0.1 ∙ (ap (λ s. s.of.book) c.pass.view_is ∙ (ap (λ o. o.book) c.requires.of.0 ∙ word)),
      offer.0 ∙ ap (λ s. s.names) c.again-known.ensures,
      add_opened g.K.Key.key_at a gl v c.pass.inside.ticket.pen.nib e c.offered-offer.result.state c.args.numbers.word_index c.args.word.now.key c.args.numbers.expected 1 i.3 c.learn-2.ensures.3 c.requires.known.0 begun i.0.2
          (ap (λ (w : NoteView). w.ticket) offer.1) (i.2 ∙ ap (λ (p : ℕ). ticket_of p (notes_of a)) (sym by)) c.requires.known.2 moving may lets,
    )

facts : (g : Over) (c : goal.After-drop-offer-2 g)
    → IsIn g.K.Key.key_at (opening_of c.pass.inside.seen.log) c.pass.inside.seen.log c.args.given.now.log c.compare_exchange-found.new.seen.log c.offered-offer.result.ask c.args.numbers.word_index c.args.word.now.key c.args.numbers.expected
facts g c =
    let i = c.pass.invariant in
    let offer = c.offered-offer.ensures.offer in
    let e = c.offered-offer.result.ask in
    let gl = c.args.given.now.log in
    let a = c.pass.inside.seen.log in
    let v = c.learn-2.new.self.log in
    let by : e.by ≡ first_number c.pass.inside.number.numbers = ap (λ (w : NoteView). w.by) offer.1 in
    let begun : IsPrefix gl v = prefix_trans gl c.learn.new.self.log v c.learn.ensures.3 c.learn-2.ensures.2 in
    added g.K.Key.key_at a gl v c.pass.inside.ticket.pen.nib e c.args.numbers.word_index c.args.word.now.key c.args.numbers.expected (c.args.numbers.expected + 1) c.compare_exchange-found.result c.offered-offer.result.state
    (c.compare_exchange-found.new.seen.log, (c.compare_exchange-found.new.pen.nib, c.compare_exchange-found.new.offer.state)) i.3 c.learn-2.ensures.3 c.requires.known.0 begun
    (i.2 ∙ ap (λ (p : ℕ). ticket_of p (notes_of a)) (sym by)) c.requires.known.2 c.if-found-numbers.false c.compare_exchange-found.ensures.7

pub invariant_of-pass-2 : goal.invariant_of-pass-2
invariant_of-pass-2 g c =
    let f = facts g c in
    let i = c.pass.invariant in
    let offer = c.offered-offer.ensures.offer in
    let e = c.offered-offer.result.ask in
    let used = c.use_up.ensures in
    let key : ℕ = c.use_up.result.key in
    let book = c.compare_exchange-found.new.seen.book in
    let by : e.by ≡ first_number c.pass.inside.number.numbers = ap (λ (w : NoteView). w.by) offer.1 in
    let self : book ≡ c.args.self.now.book = c.compare_exchange-found.ensures.0 ∙ (c.learn-2.ensures.0 ∙ (c.learn.ensures.0 ∙ (ap (λ s. s.book) c.again-seen.ensures ∙ ap (λ o. o.book) c.self.view_is))) in
    let mine : book ≡ c.pass.inside.seen.book = self ∙ sym (ap (λ s. s.of.book) c.pass.view_is ∙ ap (λ o. o.book) c.requires.of.0) in
    let names : c.compare_exchange-found.new.seen.names ≡ c.pass.inside.seen.names = c.compare_exchange-found.ensures.1 ∙ (c.learn-2.ensures.1 ∙ (c.learn.ensures.1 ∙ (ap (λ s. s.names) c.again-seen.ensures ∙ ap (λ o. o.chunks) c.self.view_is))) ∙ sym (ap (λ s. s.of.chunks) c.pass.view_is ∙ ap (λ o. o.chunks) c.requires.of.0) in
    let word : c.use_up.result ≡ word_of c.pass.inside.seen.book c.pass.inside.ticket.pen.nib.key = used.word ∙ i.0.0 in
    let own : key ≡ c.pass.inside.ticket.pen.nib.key = ap (λ w. w.key) word in
    let ticket : f.done.note.ticket ≡ key = f.done.ticket ∙ (ap (λ (w : NoteView). w.ticket) offer.1 ∙ sym own) in (
      rw (used.next, self) c.next_ticket-next.ensures,
      (word ∙ (ap (λ b. word_of b c.pass.inside.ticket.pen.nib.key) (sym mine) ∙ ap (word_of book) (sym own)), subst (IsUsed key) (sym f.done.last) (used_last f.done.mid f.done.note key ticket)),
      rw (used.next, sym by) (sym (f.ticket ∙ ap (λ (w : NoteView). w.next) offer.1)),
      f.opened,
      rw f.opening f.legal,
      rw f.opening i.5,
      rw (mine, names, f.opening) i.6,
    )

pub returns-clause-done : goal.returns-clause-done
returns-clause-done g c =
    let f = facts g c in
    let i = c.pass.invariant in
    let offer = c.offered-offer.ensures.offer in
    let e = c.offered-offer.result.ask in
    let by : e.by ≡ c.args.pass.now.number = ap (λ (w : NoteView). w.by) offer.1 ∙ ap (λ s. s.number) c.pass.view_is in
    let event : e.event ≡ event_of c.args.change = ap (λ (w : NoteView). w.event) offer.1 in
    let opening : opening_of c.pass.inside.seen.log ≡ c.args.self.now.opening = ap (λ s. s.of.opening) c.pass.view_is ∙ ap (λ o. o.opening) c.requires.of.0 in
    let notes : notes_of c.pass.inside.seen.log ≡ c.args.pass.now.notes = ap (λ s. s.notes) c.pass.view_is in
    let done1 : IsDone g.K.Key.key_at c.args.self.now.opening e.by (notes_of c.pass.inside.seen.log) (notes_of c.args.given.now.log) (notes_of c.compare_exchange-found.new.seen.log) e.event c.args.numbers.word_index c.args.word.now.key c.args.numbers.expected e.ticket =
    subst (λ (o : Totals). IsDone g.K.Key.key_at o e.by (notes_of c.pass.inside.seen.log) (notes_of c.args.given.now.log) (notes_of c.compare_exchange-found.new.seen.log) e.event c.args.numbers.word_index c.args.word.now.key c.args.numbers.expected e.ticket) opening f.done in
    let done2 : IsDone g.K.Key.key_at c.args.self.now.opening c.args.pass.now.number c.args.pass.now.notes (notes_of c.args.given.now.log) (notes_of c.compare_exchange-found.new.seen.log) e.event c.args.numbers.word_index c.args.word.now.key c.args.numbers.expected e.ticket =
    subst (λ (p : ℕ). IsDone g.K.Key.key_at c.args.self.now.opening p c.args.pass.now.notes (notes_of c.args.given.now.log) (notes_of c.compare_exchange-found.new.seen.log) e.event c.args.numbers.word_index c.args.word.now.key c.args.numbers.expected e.ticket) by
    (subst (λ (l : List NoteView). IsDone g.K.Key.key_at c.args.self.now.opening e.by l (notes_of c.args.given.now.log) (notes_of c.compare_exchange-found.new.seen.log) e.event c.args.numbers.word_index c.args.word.now.key c.args.numbers.expected e.ticket) notes done1) in
    (e.ticket, subst (λ (x : Event). IsDone g.K.Key.key_at c.args.self.now.opening c.args.pass.now.number c.args.pass.now.notes (notes_of c.args.given.now.log) (notes_of c.compare_exchange-found.new.seen.log) x c.args.numbers.word_index c.args.word.now.key c.args.numbers.expected e.ticket) event done2)
