use Rattle.std.proofs.Common.{◌≡◌, ◌+◌, ◌^◌, ◌<◌, ◌++◌, ◌∷◌, sym, ◌∙◌, ap, subst, ℕ, [], length, refl, arith}
use Rattle.lasso_log.specs.History.{Append, Totals, MayFollow}
use Rattle.lasso_log.specs.Notes.{notes_of, opening_of, state}
use Rattle.lasso_log.specs.Book.{IsDone, Reads, word_of}
use Rattle.lasso_log.specs.Views.{interner_id, list_of}
use Rattle.lasso_log.proofs.Histories.{prefix_trans}
use Rattle.lasso_log.proofs.Lengths.{length_of, may_append, moving_append}
use Rattle.lasso_log.proofs.Reading.{list_after, length_after_append}
use Rattle.lasso_log.proofs.log.shared_log.Log.try_append.Goals as goal

pub exchange-done-requires-clause-of : goal.exchange-done-requires-clause-of
exchange-done-requires-clause-of g c =
    let head = c.self.invariant.0 in
    let book = ap (λ o. o.book) c.self.view_is in
    (c.requires.of.0, ap (λ s. s.of.book) c.spine.view_is ∙ ap (λ o. o.book) c.requires.of.1, head ∙ (ap (λ b. word_of b 0) book ∙ ap (word_of c.args.self.now.book) (sym (ap (λ w. w.key) head))))

pub exchange-done-requires-clause-known : goal.exchange-done-requires-clause-known
exchange-done-requires-clause-known g c =
    (c.spine.invariant.0, ap (λ s. s.of.opening) c.spine.view_is ∙ ap (λ o. o.opening) c.requires.of.1, (c.spine.inside.appended, rw (ap (λ w. w.key) c.self.invariant.0) c.spine.invariant.2.0))

pub exchange-done-requires-clause-may : goal.exchange-done-requires-clause-may
exchange-done-requires-clause-may g c =
    let o = c.args.self.now.opening in
    let v = notes_of c.spine.inside.seen.log in
    let legal : MayFollow g.K.Key.key_at (state o v) (Append c.args.text.now) = rw (ap (λ s. s.notes) c.spine.view_is) c.requires.may in
    let opening : length (opening_of c.spine.inside.seen.log).texts ≡ length o.texts = ap (λ s. length s.of.opening.texts) c.spine.view_is ∙ ap (λ of. length of.opening.texts) c.requires.of.1 in
    let some = c.if-spine-eq0.false in
    let small : length o.texts + c.spine.inside.appended + 1 < 2 ^ 64 = omega (arith, opening, some, c.spine.invariant.1, c.spine.invariant.3) in
    (λ t. moving_append t c.args.text.now 0, rw (ap (λ w. w.key) c.self.invariant.0) (may_append g.K.Key.key_at o v c.args.text.now c.spine.inside.appended (length_of o v 0 c.spine.inside.appended c.spine.invariant.2.0) small legal))

pub exchange-done-requires-clause-cell_proof : goal.exchange-done-requires-clause-cell_proof
exchange-done-requires-clause-cell_proof g c =
    let o = c.args.self.now.opening in
    let v = notes_of c.spine.inside.seen.log in
    let first : c.spine.inside.first ≡ length o.texts = c.spine.invariant.1 ∙ (ap (λ s. length s.of.opening.texts) c.spine.view_is ∙ ap (λ of. length of.opening.texts) c.requires.of.1) in
    let len : length (state o v).texts ≡ length o.texts + c.spine.inside.appended = length_of o v 0 c.spine.inside.appended c.spine.invariant.2.0 in
    let here : c.spine.inside.first + c.spine.inside.appended ≡ length (list_of c.args.self.now c.args.spine.now.notes) = omega (arith, len, first, ap (λ s. length (state o s.notes).texts) c.spine.view_is) in
    (rw here c.requires.cell, ap (λ t. Append t) (sym c.requires.filled.0), c.requires.filled.1, refl, ap (λ w. w.key) c.self.invariant.0, ap (λ n. n + c.spine.inside.appended) first)

pub invariant_of-spine : goal.invariant_of-spine
invariant_of-spine g c =
    let o = c.args.self.now.opening in
    let v = notes_of c.spine.inside.seen.log in
    let key = ap (λ w. w.key) c.self.invariant.0 in
    let done : IsDone g.K.Key.key_at o c.args.pass.now.number c.args.pass.now.notes v c.exchange-done.new.pass.notes (Append c.args.text.now) 0 0 c.spine.inside.appended c.if-not-done.ensures.done.0 =
    subst (λ (k : ℕ). IsDone g.K.Key.key_at o c.args.pass.now.number c.args.pass.now.notes v c.exchange-done.new.pass.notes (Append c.args.text.now) 0 k c.spine.inside.appended c.if-not-done.ensures.done.0) key c.if-not-done.ensures.done.1 in
    let s = c.copy_seen.ensures in
    let opening : opening_of c.copy_seen.result.log ≡ o = s.of.2 ∙ (ap (λ of. of.opening) c.exchange-done.ensures.same.1 ∙ ap (λ of. of.opening) c.requires.of.0) in
    let first : c.spine.inside.first ≡ length o.texts = c.spine.invariant.1 ∙ (ap (λ s. length s.of.opening.texts) c.spine.view_is ∙ ap (λ of. length of.opening.texts) c.requires.of.1) in
    let reads = length_after_append g.K.Key.key_at o c.args.pass.now.number c.args.pass.now.notes v c.exchange-done.new.pass.notes c.args.text.now c.spine.inside.appended c.if-not-done.ensures.done.0 done in
    let some = c.if-spine-eq0.false in
    let same_interner : interner_id c.copy_seen.result.book c.copy_seen.result.names (opening_of c.copy_seen.result.log) ≡ c.exchange-done.new.pass.of = λ i. interner_id (s.of.0 i) (s.of.1 i) (s.of.2 i) in
    let turns : c.spine.inside.turns.of ≡ interner_id c.copy_seen.result.book c.copy_seen.result.names (opening_of c.copy_seen.result.log) =
    c.spine.invariant.4 ∙ (ap (λ y. y.of) c.spine.view_is ∙ (c.requires.of.1 ∙ (sym (c.exchange-done.ensures.same.1 ∙ c.requires.of.0) ∙ sym same_interner))) in
    (s.log.0, rw opening first, rw (opening, s.log.1) reads, omega (arith, c.spine.invariant.3, some), turns)

pub returns-clause-done : goal.returns-clause-done
returns-clause-done g c =
    let o = c.args.self.now.opening in
    let v = notes_of c.spine.inside.seen.log in
    let key = ap (λ w. w.key) c.self.invariant.0 in
    let done : IsDone g.K.Key.key_at o c.args.pass.now.number c.args.pass.now.notes v c.exchange-done.new.pass.notes (Append c.args.text.now) 0 0 c.spine.inside.appended c.if-not-done.ensures.done.0 =
    subst (λ (k : ℕ). IsDone g.K.Key.key_at o c.args.pass.now.number c.args.pass.now.notes v c.exchange-done.new.pass.notes (Append c.args.text.now) 0 k c.spine.inside.appended c.if-not-done.ensures.done.0) key c.if-not-done.ensures.done.1 in
    let s = c.copy_seen.ensures in
    let spine : opening_of c.spine.inside.seen.log ≡ o = ap (λ s. s.of.opening) c.spine.view_is ∙ ap (λ of. of.opening) c.requires.of.1 in
    let reads : Reads g.K.Key.key_at o v 0 0 c.spine.inside.appended = subst (λ (t : Totals). Reads g.K.Key.key_at t v 0 0 c.spine.inside.appended) spine c.spine.invariant.2 in
    let list = list_after g.K.Key.key_at o c.args.pass.now.number c.args.pass.now.notes v c.exchange-done.new.pass.notes c.args.text.now c.spine.inside.appended c.if-not-done.ensures.done.0 done reads in
    let some = c.if-spine-eq0.false in record {
      event = done.since;
      list = list ∙ ap (λ s. (state o s.notes).texts ++ c.args.text.now ∷ []) c.spine.view_is;
      spine = s.log.1;
      begins = rw (s.log.1, ← ap (λ s. s.notes) c.spine.view_is) (prefix_trans v done.mid c.exchange-done.new.pass.notes done.begins (done.note ∷ [], sym done.last));
      kept = omega (arith, some, ap (λ s. s.kept) c.spine.view_is);
    }
