use Rattle.std.proofs.Common.{◌≡◌, ◌+◌, ◌≤◌, ℕ, suc, List, [], ◌∷◌, sym, ap, ◌∙◌, subst}
use mathlib.Core.List.{IsPrefix}
use Rattle.lasso_log.specs.History.{Event, Reserve, Totals}
use Rattle.lasso_log.specs.Notes.{NoteView, Since, first_note, notes_of, opening_of, ticket_of, bucket_in, state}
use Rattle.lasso_log.specs.Book.{Moving, May, Lets, IsIn, IsUsed, word_of}
use Rattle.lasso_log.specs.Chunks.{first_number}
use Rattle.lasso_log.specs.Events.{event_bytes}
use Rattle.lasso_log.specs.LentBuckets.{IsRightTo}
use Rattle.lasso_log.specs.SharedBuckets.{SharedView, HasTaken}
use Rattle.lasso_log.proofs.BucketWords.{moving_reserve, may_reserve, lets_reserve, taken_more}
use Rattle.lasso_log.proofs.Histories.{prefix_trans}
use Rattle.lasso_log.proofs.Logs.{add_opened, added, opening_first}
use Rattle.lasso_log.proofs.Tickets.{used_last}
use Rattle.lasso_log.proofs.log.shared_log.Log.reserve_at.Given.{Over}
use Rattle.lasso_log.proofs.log.shared_log.Log.reserve_at.Goals as goal

pub compare_exchange-found-requires : goal.compare_exchange-found-requires
compare_exchange-found-requires g c =
    let i = c.pass.invariant in let offer = c.take_bytes-offer.ensures in let e = c.take_bytes-offer.result.ask in
    let b = c.bucket.inside in let at = c.bucket.invariant.stands in let key : ℕ = b.word.key in let old : ℕ = c.args.expected in let n : ℕ = c.args.bytes in let index : ℕ = suc (suc b.position) in
    let gl = b.seen.log in let a = c.pass.inside.seen.log in let v = c.learn-2.new.self.log in
    let self : c.learn.new.self.book ≡ c.args.self.now.book = c.learn.ensures.0 ∙ (ap (λ s. s.book) c.again-seen.ensures ∙ ap (λ o. o.book) c.self.view_is) in
    let word : c.args.self.now.book ≡ b.word.book = sym (ap (λ w. w.book) c.bucket.invariant.own ∙ (ap (λ s. s.of.book) c.bucket.view_is ∙ ap (λ o. o.book) c.requires.of.1)) in
    let by : e.by ≡ first_number c.pass.inside.number.numbers = ap (λ (w : NoteView). w.by) offer.1 in
    let event : e.event ≡ Reserve b.position n = ap (λ (w : NoteView). w.event) offer.1 in
    let begun : IsPrefix gl v = prefix_trans gl c.learn.new.self.log v c.learn.ensures.3 c.learn-2.ensures.2 in
    let fits : b.base + old + n ≤ b.size = subst (λ (s : SharedView). s.base + old + n ≤ s.size) (sym c.bucket.view_is) c.requires.fits in
    let moving : Moving e.ticket e.event index n c.pass.inside.ticket.pen.nib.value = rw event (moving_reserve e.ticket b.position n c.pass.inside.ticket.pen.nib.value) in
    let may : May g.K.Key.key_at (opening_of gl) (notes_of gl) index key old e.event =
    rw (opening_first gl, event) (may_reserve g.K.Key.key_at (first_note gl) (notes_of gl) b.position key b.base b.size n old b.site.numbers at c.requires.some fits) in
    let lets : Lets g.K.Key.key_at (first_note gl) (notes_of gl) index key old e c.take_bytes-offer.result.state =
    rw offer.3 (lets_reserve g.K.Key.key_at (first_note gl) (notes_of gl) b.position key b.base b.size n old b.site.numbers at c.requires.some fits e event (ap (λ (w : NoteView). w.lent) offer.1)) in (
      ap (λ w. w.tracked) c.bucket.invariant.own,
      c.learn-2.ensures.0 ∙ (self ∙ word),
      i.0.1 ∙ (ap (λ s. s.of.book) c.pass.view_is ∙ (ap (λ o. o.book) c.requires.of.0 ∙ word)),
      offer.0,
      add_opened g.K.Key.key_at a gl v c.pass.inside.ticket.pen.nib e c.take_bytes-offer.result.state index key old n i.3 c.learn-2.ensures.3 c.bucket.invariant.opened begun i.0.2
          (ap (λ (w : NoteView). w.ticket) offer.1) (i.2 ∙ ap (λ (p : ℕ). ticket_of p (notes_of a)) (sym by)) (at.value, at.stands.word) moving may lets,
    )

facts : (g : Over) (c : goal.After-drop-pass-inside-2 g)
    → IsIn g.K.Key.key_at (opening_of c.pass.inside.seen.log) c.pass.inside.seen.log c.bucket.inside.seen.log c.compare_exchange-found.new.seen.log c.take_bytes-offer.result.ask (suc (suc c.bucket.inside.position)) c.bucket.inside.word.key c.args.expected
facts g c =
    let i = c.pass.invariant in let offer = c.take_bytes-offer.ensures in let e = c.take_bytes-offer.result.ask in let at = c.bucket.invariant.stands in
    let gl = c.bucket.inside.seen.log in let a = c.pass.inside.seen.log in let v = c.learn-2.new.self.log in
    let by : e.by ≡ first_number c.pass.inside.number.numbers = ap (λ (w : NoteView). w.by) offer.1 in
    let begun : IsPrefix gl v = prefix_trans gl c.learn.new.self.log v c.learn.ensures.3 c.learn-2.ensures.2 in
    added g.K.Key.key_at a gl v c.pass.inside.ticket.pen.nib e (suc (suc c.bucket.inside.position)) c.bucket.inside.word.key c.args.expected (c.args.expected + c.args.bytes) c.compare_exchange-found.result c.take_bytes-offer.result.state
    (c.compare_exchange-found.new.seen.log, (c.compare_exchange-found.new.pen.nib, c.compare_exchange-found.new.offer.state)) i.3 c.learn-2.ensures.3 c.bucket.invariant.opened begun
    (i.2 ∙ ap (λ (p : ℕ). ticket_of p (notes_of a)) (sym by)) (at.value, at.stands.word) c.if-found-expected.false c.compare_exchange-found.ensures.7

pub invariant_of-pass-2 : goal.invariant_of-pass-2
invariant_of-pass-2 g c =
    let f = facts g c in let i = c.pass.invariant in let offer = c.take_bytes-offer.ensures in let e = c.take_bytes-offer.result.ask in
    let used = c.use_up.ensures in let key : ℕ = c.use_up.result.key in let book = c.compare_exchange-found.new.seen.book in
    let by : e.by ≡ first_number c.pass.inside.number.numbers = ap (λ (w : NoteView). w.by) offer.1 in
    let self : book ≡ c.args.self.now.book = c.compare_exchange-found.ensures.0 ∙ (c.learn-2.ensures.0 ∙ (c.learn.ensures.0 ∙ (ap (λ s. s.book) c.again-seen.ensures ∙ ap (λ o. o.book) c.self.view_is))) in
    let mine : book ≡ c.pass.inside.seen.book = self ∙ sym (ap (λ s. s.of.book) c.pass.view_is ∙ ap (λ o. o.book) c.requires.of.0) in
    let names : c.compare_exchange-found.new.seen.names ≡ c.pass.inside.seen.names = c.compare_exchange-found.ensures.1 ∙ (c.learn-2.ensures.1 ∙ (c.learn.ensures.1 ∙ (ap (λ s. s.names) c.again-seen.ensures ∙ ap (λ o. o.chunks) c.self.view_is))) ∙ sym (ap (λ s. s.of.chunks) c.pass.view_is ∙ ap (λ o. o.chunks) c.requires.of.0) in
    let word : c.use_up.result ≡ word_of c.pass.inside.seen.book c.pass.inside.ticket.pen.nib.key = used.word ∙ i.0.0 in
    let own : key ≡ c.pass.inside.ticket.pen.nib.key = ap (λ w. w.key) word in
    let ticket : f.done.note.ticket ≡ key = f.done.ticket ∙ (ap (λ (w : NoteView). w.ticket) offer.1 ∙ sym own) in (
      rw (used.next, self) c.next_ticket-next.ensures,
      (word ∙ (ap (λ b. word_of b c.pass.inside.ticket.pen.nib.key) (sym mine) ∙ ap (word_of book) (sym own)), subst (IsUsed key) (sym f.done.last) (used_last f.done.mid f.done.note key ticket)),
      rw (used.next, sym by) (sym (f.ticket ∙ ap (λ (w : NoteView). w.next) offer.1)),
      f.opened,
      rw f.opening f.legal,
      rw f.opening i.5,
      rw (mine, names, f.opening) i.6,
    )

pub returns-clause-right : goal.returns-clause-right
returns-clause-right g c =
    let offer = c.take_bytes-offer.ensures in let e = c.take_bytes-offer.result.ask in let r = c.right_taken-right.result in
    let right : IsRightTo r (bucket_in e.lent) (event_bytes e.event) = c.right_taken-right.ensures e (c.into_gain.ensures.1 ∙ (c.compare_exchange-found.ensures.4 ∙ (offer.2 ∙ ap (λ (x : NoteView). x ∷ []) (sym offer.1)))) in
    subst (λ (s : SharedView). IsRightTo r record { site = s.site; size = s.size; used = s.base + c.args.expected } c.args.bytes) c.bucket.view_is
    (subst (λ (w : NoteView). IsRightTo r (bucket_in w.lent) (event_bytes w.event)) offer.1 right)

pub returns-clause-event : goal.returns-clause-event
returns-clause-event g c =
    let offer = c.take_bytes-offer.ensures in let e = c.take_bytes-offer.result.ask in let after = notes_of c.compare_exchange-found.new.seen.log in
    let by : e.by ≡ c.args.pass.now.number = ap (λ (w : NoteView). w.by) offer.1 ∙ ap (λ s. s.number) c.pass.view_is in
    let event : e.event ≡ Reserve c.args.bucket.now.position c.args.bytes = ap (λ (w : NoteView). w.event) offer.1 ∙ ap (λ (s : SharedView). Reserve s.position c.args.bytes) c.bucket.view_is in
    let notes : notes_of c.pass.inside.seen.log ≡ c.args.pass.now.notes = ap (λ s. s.notes) c.pass.view_is in
    subst (λ (x : Event). Since c.args.pass.now.number c.args.pass.now.notes after (x ∷ [])) event
    (subst (λ (p : ℕ). Since p c.args.pass.now.notes after (e.event ∷ [])) by (subst (λ (l : List NoteView). Since e.by l after (e.event ∷ [])) notes (facts g c).done.since))

pub returns-clause-taken : goal.returns-clause-taken
returns-clause-taken g c =
    let offer = c.take_bytes-offer.ensures in let e = c.take_bytes-offer.result.ask in let b = c.bucket.inside in let gl = b.seen.log in let after = notes_of c.compare_exchange-found.new.seen.log in
    let d = (facts g c).done in
    let event : d.note.event ≡ Reserve b.position c.args.bytes = d.is ∙ ap (λ (w : NoteView). w.event) offer.1 in
    let opening : (first_note gl).opening ≡ c.args.self.now.opening = sym (opening_first gl) ∙ (ap (λ s. s.of.opening) c.bucket.view_is ∙ ap (λ o. o.opening) c.requires.of.1) in
    subst (λ (s : SharedView). HasTaken (state c.args.self.now.opening after) s.position (s.base + c.args.expected + c.args.bytes)) c.bucket.view_is
    (subst (λ (o : Totals). HasTaken (state o after) b.position (b.base + c.args.expected + c.args.bytes)) opening
    (taken_more (first_note gl) (notes_of gl) d.mid after d.note b.position b.word.key b.base b.size c.args.expected c.args.bytes b.site.numbers d.begins c.bucket.invariant.stands d.value event d.last))

pub returns-clause-note : goal.returns-clause-note
returns-clause-note g c =
    let f = facts g c in let d = f.done in let made = f.note ∙ c.take_bytes-offer.ensures.1 in record {
      before = d.mid;
      note = d.note;
      last = d.last;
      own = ap (λ (w : NoteView). w.by) made ∙ ap (λ s. s.number) c.pass.view_is;
      event = ap (λ (w : NoteView). w.event) made ∙ ap (λ (s : SharedView). Reserve s.position c.args.bytes) c.bucket.view_is;
      lies = ap (λ (w : NoteView). (bucket_in w.lent).site) made ∙ ap (λ (s : SharedView). s.site) c.bucket.view_is;
    }
