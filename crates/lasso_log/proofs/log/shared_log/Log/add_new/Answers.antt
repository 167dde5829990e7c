use Rattle.std.proofs.Common.{◌≡◌, ◌≢◌, ◌+◌, ◌≤◌, ◌<◌, ◌^◌, ℕ, Some, IfSome, List, [], ◌∷◌, length, sym, ap, ◌∙◌, subst, arith}
use mathlib.Core.List.{IsPrefix}
use Rattle.logbook.specs.Pages.{Nib}
use Rattle.lasso_log.specs.Buckets.{bucket_size, doubling_after}
use Rattle.lasso_log.specs.Book.{IsDone, IsUsedWord, May, Moving, Lets, word_of}
use Rattle.lasso_log.specs.Chunks.{first_number, era_named}
use Rattle.lasso_log.specs.Events.{bucket_at}
use Rattle.lasso_log.specs.History.{Event, Charge, Totals}
use Rattle.lasso_log.specs.LentBuckets.{LentBucket}
use Rattle.lasso_log.specs.Notes.{NoteView, bucket_in, first_note, notes_of, opening_of, ticket_of, state}
use Rattle.lasso_log.specs.Turns.{IsTurned, NoneHasRoom}
use Rattle.lasso_log.specs.Views.{TurnsView}
use Rattle.lasso_log.proofs.Histories.{prefix_self, prefix_trans}
use Rattle.lasso_log.proofs.Logs.{tails, firsts, opening_first}
use Rattle.lasso_log.proofs.NewBuckets.{stands_last, lets_charge}
use Rattle.lasso_log.proofs.Tickets.{used_word_later}
use Rattle.lasso_log.proofs.TurnWords.{has_turns, lacks_later, same_turn, may_charge, moving_charge, charge_turned}
use Rattle.lasso_log.proofs.log.shared_log.Log.add_new.Goals as goal

pub offer_once-tried-requires-clause-bid : goal.offer_once-tried-requires-clause-bid
offer_once-tried-requires-clause-bid g c =
    let i = c.pass.invariant in let set = c.set.ensures.pen in let offer = c.add_bucket-offer.ensures in let e = c.add_bucket-offer.result.ask in
    let a = c.pass.inside.seen.log in let v = c.learn-2.new.self.log in let t = c.turns.inside in let b = c.bucket.inside in let n : ℕ = b.taken in let numbers = b.site.numbers in let o : Totals = c.args.self.now.opening in
    let turned : IsTurned g.K.Key.key_at o (notes_of t.seen.log) t.turns t.doubling t.usage t.limit t.count =
    subst (λ (x : Totals). IsTurned g.K.Key.key_at x (notes_of t.seen.log) t.turns t.doubling t.usage t.limit t.count) (ap (λ y. y.of.opening) c.turns.view_is ∙ ap (λ y. y.opening) c.requires.of.1) c.turns.invariant.1 in
    let book : c.learn-2.new.self.book ≡ c.args.self.now.book = c.learn-2.ensures.0 ∙ (c.learn.ensures.0 ∙ (ap (λ y. y.book) c.again-seen.ensures ∙ ap (λ y. y.book) c.self.view_is)) in
    let past : IsPrefix (notes_of t.seen.log) (notes_of v) = (tails t.seen.log v c.turns.invariant.0 (prefix_trans t.seen.log c.learn.new.self.log v c.learn.ensures.3 c.learn-2.ensures.2)).2 in
    let opened : opening_of v ≡ o = sym (tails a v i.3 c.learn-2.ensures.3).1 ∙ (ap (λ y. y.of.opening) c.pass.view_is ∙ ap (λ y. y.opening) c.requires.of.0) in
    let before : c.again-before.result.log ≡ a = ap (λ s. s.log) c.again-before.ensures in let given : c.again-given.result.log ≡ v = ap (λ s. s.log) c.again-given.ensures in
    let nib : c.replace-pen.result.nib ≡ c.set.new.self.pen.nib = ap (λ p. p.nib) c.replace-pen.ensures.value in
    let by : e.by ≡ first_number c.pass.inside.number.numbers = ap (λ (w : NoteView). w.by) offer.1 in
    let event : e.event ≡ Charge b.size n = ap (λ (w : NoteView). w.event) offer.1 in
    let value : c.replace-pen.result.nib.value ≡ n = ap (λ (p : Nib). p.value) nib ∙ ap (λ (p : Nib). p.value) set.1 in
    let own : c.replace-pen.result.nib.key ≡ ticket_of e.by (notes_of a) = ap (λ (p : Nib). p.key) nib ∙ (ap (λ (p : Nib). p.key) set.1 ∙ (i.2 ∙ ap (λ (p : ℕ). ticket_of p (notes_of a)) (sym by))) in
    let some : n ≢ 0 = subst (λ (x : LentBucket). x.used ≢ 0) (sym c.bucket.view_is) c.requires.some in
    let seen : IsPrefix c.args.pass.now.notes (notes_of v) = subst (λ (l : List NoteView). IsPrefix l (notes_of v)) (ap (λ s. s.notes) c.pass.view_is) (tails a v i.3 c.learn-2.ensures.3).2 in
    let room : NoneHasRoom (state o c.args.pass.now.notes) t.count n = subst (λ (y : TurnsView). NoneHasRoom (state o c.args.pass.now.notes) y.count n) (sym c.turns.view_is) (subst (λ (x : LentBucket). NoneHasRoom (state o c.args.pass.now.notes) c.args.turns.now.count x.used) (sym c.bucket.view_is) c.requires.room) in
    let size : bucket_size t.doubling t.usage t.limit n ≡ Some b.size = subst (λ (y : TurnsView). bucket_size y.doubling y.usage y.limit n ≡ Some b.size) (sym c.turns.view_is) (subst (λ (x : LentBucket). bucket_size c.args.turns.now.doubling c.args.turns.now.usage c.args.turns.now.limit x.used ≡ Some x.size) (sym c.bucket.view_is) c.requires.size) in
    let within : t.usage + b.size ≤ t.limit = subst (λ (y : TurnsView). y.usage + b.size ≤ y.limit) (sym c.turns.view_is) (subst (λ (x : LentBucket). c.args.turns.now.usage + x.size ≤ c.args.turns.now.limit) (sym c.bucket.view_is) c.requires.within) in
    let may : May g.K.Key.key_at o (notes_of v) 1 1 t.turns (Charge b.size n) =
    may_charge g.K.Key.key_at o (notes_of t.seen.log) (notes_of v) b.size n t.turns t.doubling t.usage t.limit t.count turned past (λ p low. lacks_later o c.args.pass.now.notes (notes_of v) p n seen (room p low)) some size within in
    let moving : Moving e.ticket e.event 1 1 c.replace-pen.result.nib.value = rw (event, value) (moving_charge e.ticket b.size n) in
    let lets : Lets g.K.Key.key_at (first_note v) (notes_of v) 1 1 t.turns e c.add_bucket-offer.result.state = rw offer.3 (lets_charge g.K.Key.key_at (first_note v) (notes_of v) 1 t.turns b.size n numbers e event (ap (λ (w : NoteView). w.lent) offer.1)) in record {
      pen_of = ap (λ p. p.book) c.replace-pen.ensures.value ∙ (set.0 ∙ (i.0.1 ∙ (ap (λ s. s.of.book) c.pass.view_is ∙ (ap (λ x. x.book) c.requires.of.0 ∙ sym book))));
      names_of = offer.0;
      begun = rw before (i.3, c.learn-2.ensures.3);
      told = rw given ((tails a v i.3 c.learn-2.ensures.3).0, prefix_self v);
      right = ap (λ (p : Nib). p.right) nib ∙ ap (λ (p : Nib). p.right) set.1;
      ticket = ap (λ (w : NoteView). w.ticket) offer.1 ∙ sym (ap (λ (p : Nib). p.key) nib);
      own = rw before own;
      word = has_turns (notes_of c.again-given.result.log);
      moving = moving;
      may = rw (given, opened, event) may;
      lets = rw given lets;
    }

pub invariant_of-pass : goal.invariant_of-pass
invariant_of-pass g c =
    let i = c.pass.invariant in let offer = c.add_bucket-offer.ensures in let e = c.add_bucket-offer.result.ask in let fact = rw c.if-done.true at c.offer_once-tried.ensures.done in let same = c.offer_once-tried.ensures.same in
    let a = c.pass.inside.seen.log in let v = c.learn-2.new.self.log in let after = c.offer_once-tried.result.0.seen.log in
    let before : c.again-before.result.log ≡ a = ap (λ s. s.log) c.again-before.ensures in
    let book : c.offer_once-tried.result.0.seen.book ≡ c.args.self.now.book = same.0 ∙ (c.learn-2.ensures.0 ∙ (c.learn.ensures.0 ∙ (ap (λ y. y.book) c.again-seen.ensures ∙ ap (λ y. y.book) c.self.view_is))) in
    let mine : c.pass.inside.seen.book ≡ c.offer_once-tried.result.0.seen.book = ap (λ s. s.of.book) c.pass.view_is ∙ (ap (λ x. x.book) c.requires.of.0 ∙ sym book) in
    let names : c.offer_once-tried.result.0.seen.names ≡ c.pass.inside.seen.names = same.1 ∙ (c.learn-2.ensures.1 ∙ (c.learn.ensures.1 ∙ (ap (λ y. y.names) c.again-seen.ensures ∙ ap (λ y. y.chunks) c.self.view_is))) ∙ sym (ap (λ s. s.of.chunks) c.pass.view_is ∙ ap (λ x. x.chunks) c.requires.of.0) in
    let by : e.by ≡ first_number c.pass.inside.number.numbers = ap (λ (w : NoteView). w.by) offer.1 in
    let past = tails a after i.3 (prefix_trans a v after c.learn-2.ensures.3 same.3) in
    let used = used_word_later c.pass.inside.seen.book (notes_of a) (notes_of after) c.pass.inside.used past.2 i.1 in (
      rw (c.use_up-word.ensures.next, book) c.next_ticket-next.ensures,
      subst (λ b. IfSome c.pass.inside.used (IsUsedWord b (notes_of after))) mine used,
      rw (c.use_up-word.ensures.next, sym by) (sym (fact.ticket ∙ ap (λ (w : NoteView). w.next) offer.1)),
      fact.opened,
      rw fact.opening fact.legal,
      rw (← past.1) i.5,
      rw (← mine, names, ← past.1) i.6,
    )

pub invariant_of-result : goal.invariant_of-result
invariant_of-result g c =
    let i = c.pass.invariant in let set = c.set.ensures.pen in let offer = c.add_bucket-offer.ensures in let e = c.add_bucket-offer.result.ask in
    let a = c.pass.inside.seen.log in let v = c.learn-2.new.self.log in let after = c.offer_once-tried.result.0.seen.log in let t = c.turns.inside in let b = c.bucket.inside in let n : ℕ = b.taken in let numbers = b.site.numbers in let o : Totals = c.args.self.now.opening in
    let fact = rw c.if-done.true at c.offer_once-tried.ensures.done in let d = fact.done in let f = first_note after in
    let same = c.offer_once-tried.ensures.same in
    let again = c.again.ensures in
    let before : c.again-before.result.log ≡ a = ap (λ s. s.log) c.again-before.ensures in
    let given : c.again-given.result.log ≡ v = ap (λ s. s.log) c.again-given.ensures in
    let book : c.offer_once-tried.result.0.seen.book ≡ c.args.self.now.book = same.0 ∙ (c.learn-2.ensures.0 ∙ (c.learn.ensures.0 ∙ (ap (λ y. y.book) c.again-seen.ensures ∙ ap (λ y. y.book) c.self.view_is))) in
    let mine : c.pass.inside.seen.book ≡ c.again.result.book = ap (λ s. s.of.book) c.pass.view_is ∙ (ap (λ x. x.book) c.requires.of.0 ∙ (sym book ∙ sym (ap (λ s. s.book) again))) in
    let names : c.again.result.names ≡ c.args.self.now.chunks = ap (λ s. s.names) again ∙ (same.1 ∙ (c.learn-2.ensures.1 ∙ (c.learn.ensures.1 ∙ (ap (λ y. y.names) c.again-seen.ensures ∙ ap (λ y. y.chunks) c.self.view_is)))) in
    let word : c.use_up-word.result ≡ word_of c.pass.inside.seen.book c.pass.inside.ticket.pen.nib.key = c.use_up-word.ensures.word ∙ (c.set.ensures.word ∙ i.0.0) in
    let key : c.use_up-word.result.key ≡ c.pass.inside.ticket.pen.nib.key = ap (λ w. w.key) word in
    let ticket : e.ticket ≡ c.use_up-word.result.key = ap (λ (w : NoteView). w.ticket) offer.1 ∙ (ap (λ (p : Nib). p.key) set.1 ∙ sym key) in
    let event : d.note.event ≡ Charge b.size n = ap (λ (w : NoteView). w.event) (fact.note ∙ offer.1) in
    let own : d.note.lent ≡ bucket_at numbers b.size n ∷ [] = ap (λ (w : NoteView). w.lent) (fact.note ∙ offer.1) in
    let used : d.note.ticket ≡ c.use_up-word.result.key = ap (λ (w : NoteView). w.ticket) fact.note ∙ ticket in
    let opening : f.opening ≡ o = sym (opening_first after) ∙ (fact.opening ∙ (ap opening_of before ∙ (ap (λ s. s.of.opening) c.pass.view_is ∙ ap (λ y. y.opening) c.requires.of.0))) in
    let turned : IsTurned g.K.Key.key_at o (notes_of t.seen.log) t.turns t.doubling t.usage t.limit t.count =
    subst (λ (x : Totals). IsTurned g.K.Key.key_at x (notes_of t.seen.log) t.turns t.doubling t.usage t.limit t.count) (ap (λ y. y.of.opening) c.turns.view_is ∙ ap (λ y. y.opening) c.requires.of.1) c.turns.invariant.1 in
    let past : IsPrefix (notes_of t.seen.log) (notes_of v) = (tails t.seen.log v c.turns.invariant.0 (prefix_trans t.seen.log c.learn.new.self.log v c.learn.ensures.3 c.learn-2.ensures.2)).2 in
    let mid : IsPrefix (notes_of v) d.mid = subst (λ (l : List NoteView). IsPrefix (notes_of l) d.mid) given d.begins in
    let calm = same_turn o (notes_of t.seen.log) d.mid t.turns (prefix_trans (notes_of t.seen.log) (notes_of v) d.mid past mid) turned.word d.value in
    let all : t.count ≡ length (state f.opening d.mid).buckets = turned.all ∙ (sym calm.count ∙ ap (λ (x : Totals). length (state x d.mid).buckets) (sym opening)) in
    let one : length f.opening.buckets ≡ 1 = ap (λ (x : Totals). length x.buckets) (opening ∙ (sym (ap (λ y. y.opening) c.self.view_is) ∙ c.self.invariant.5.bucket.4)) in
    let begins : IsPrefix c.self.inside.seen.log after = subst (λ (l : List NoteView). IsPrefix l after) (ap (λ y. y.log) c.again-seen.ensures)
    (prefix_trans c.again-seen.result.log v after (prefix_trans c.again-seen.result.log c.learn.new.self.log v c.learn.ensures.2 c.learn-2.ensures.2) same.3) in
    let lent : length f.lent ≡ 1 = ap (λ (x : NoteView). length x.lent) (sym (firsts c.self.inside.seen.log after c.self.invariant.2 begins)) ∙ c.self.invariant.7 in
    let stands = stands_last f d.mid (notes_of after) d.note b.size n t.count c.use_up-word.result.key numbers one lent all event used own d.last in
    let log : c.again.result.log ≡ after = ap (λ s. s.log) again in record {
      own = word ∙ (ap (λ x. word_of x c.pass.inside.ticket.pen.nib.key) mine ∙ ap (word_of c.again.result.book) (sym key));
      opened = rw log fact.opened;
      stands = rw log stands;
      address = c.bucket.invariant.address;
      era = ap (λ (x : LentBucket). x.site.era) c.bucket.view_is ∙ (c.requires.era ∙ ap era_named (sym names));
      within = omega arith;
      small = c.bucket.invariant.small;
      few = subst (λ (y : TurnsView). y.count + 2 < 2 ^ 64) (sym c.turns.view_is) c.requires.more.1;
    }

pub returns-then-done-clause-turns : goal.returns-then-done-clause-turns
returns-then-done-clause-turns g c =
    let offer = c.add_bucket-offer.ensures in let e = c.add_bucket-offer.result.ask in
    let a = c.pass.inside.seen.log in let v = c.learn-2.new.self.log in let after = notes_of c.offer_once-tried.result.0.seen.log in let t = c.turns.inside in let b = c.bucket.inside in let n : ℕ = b.taken in let o : Totals = c.args.self.now.opening in
    let fact = rw c.if-done.true at c.offer_once-tried.ensures.done in
    let before : c.again-before.result.log ≡ a = ap (λ s. s.log) c.again-before.ensures in
    let given : c.again-given.result.log ≡ v = ap (λ s. s.log) c.again-given.ensures in
    let event : e.event ≡ Charge b.size n = ap (λ (w : NoteView). w.event) offer.1 in
    let opening : opening_of c.again-before.result.log ≡ o = ap opening_of before ∙ (ap (λ s. s.of.opening) c.pass.view_is ∙ ap (λ y. y.opening) c.requires.of.0) in
    let done : IsDone g.K.Key.key_at o e.by (notes_of c.again-before.result.log) (notes_of c.again-given.result.log) after (Charge b.size n) 1 1 t.turns e.ticket =
    subst (λ (x : Event). IsDone g.K.Key.key_at o e.by (notes_of c.again-before.result.log) (notes_of c.again-given.result.log) after x 1 1 t.turns e.ticket) event
    (subst (λ (x : Totals). IsDone g.K.Key.key_at x e.by (notes_of c.again-before.result.log) (notes_of c.again-given.result.log) after e.event 1 1 t.turns e.ticket) opening fact.done) in
    let turned : IsTurned g.K.Key.key_at o (notes_of t.seen.log) t.turns t.doubling t.usage t.limit t.count =
    subst (λ (x : Totals). IsTurned g.K.Key.key_at x (notes_of t.seen.log) t.turns t.doubling t.usage t.limit t.count) (ap (λ y. y.of.opening) c.turns.view_is ∙ ap (λ y. y.opening) c.requires.of.1) c.turns.invariant.1 in
    let past : IsPrefix (notes_of t.seen.log) (notes_of v) = (tails t.seen.log v c.turns.invariant.0 (prefix_trans t.seen.log c.learn.new.self.log v c.learn.ensures.3 c.learn-2.ensures.2)).2 in
    let here : IsPrefix (notes_of t.seen.log) (notes_of c.again-given.result.log) = subst (λ (l : List NoteView). IsPrefix (notes_of t.seen.log) (notes_of l)) (sym given) past in
    let found = charge_turned g.K.Key.key_at o e.by (notes_of c.again-before.result.log) (notes_of c.again-given.result.log) after (notes_of t.seen.log) b.size n t.turns e.ticket t.doubling t.usage t.limit t.count done here turned in
    subst (λ (y : TurnsView). IsTurned g.K.Key.key_at o after (y.turns + 1) (doubling_after y.doubling y.usage y.limit c.args.bucket.used) (y.usage + c.args.bucket.size) y.limit (y.count + 1)) c.turns.view_is
    (subst (λ (x : LentBucket). IsTurned g.K.Key.key_at o after (t.turns + 1) (doubling_after t.doubling t.usage t.limit x.used) (t.usage + x.size) t.limit (t.count + 1)) c.bucket.view_is found)

pub returns-then-done-clause-note : goal.returns-then-done-clause-note
returns-then-done-clause-note g c =
    let f = rw c.if-done.true at c.offer_once-tried.ensures.done in let d = f.done in let made = f.note ∙ c.add_bucket-offer.ensures.1 in record {
      before = d.mid;
      note = d.note;
      last = d.last;
      own = ap (λ (w : NoteView). w.by) made ∙ ap (λ s. s.number) c.pass.view_is;
      event = ap (λ (w : NoteView). w.event) made ∙ ap (λ (x : LentBucket). Charge x.size x.used) c.bucket.view_is;
      lies = ap (λ (w : NoteView). (bucket_in w.lent).site) made ∙ ap (λ (x : LentBucket). x.site) c.bucket.view_is;
    }
