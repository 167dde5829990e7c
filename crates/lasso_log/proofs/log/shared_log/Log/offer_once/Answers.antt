use Rattle.std.proofs.Common.{◌≡◌, ◌≢◌, ◌==◌, ◌+◌, Bool, true, false, ℕ, refl, sym, ap, ◌∙◌, subst, arith}
use Rattle.std.specs.Prelude.{MatchBool}
use Rattle.std.proofs.lemmas.Bool.Decides.{nat_tests}
use Rattle.logbook.specs.Pages.{View, Nib, step}
use Rattle.lasso_log.specs.Notes.{NoteView, ticket_of, notes_of}
use Rattle.lasso_log.specs.Book.{Adds}
use Rattle.lasso_log.proofs.Histories.{prefix_trans}
use Rattle.lasso_log.proofs.Logs.{add_opened, added, as_it_was}
use Rattle.lasso_log.proofs.Tickets.{not_both}
use Rattle.lasso_log.proofs.log.shared_log.Log.offer_once.Goals as goal

either_way : (A B : Type 0) (b : Bool) → (b ≡ true → A) → (b ≡ false → B) → MatchBool b A B
either_way A B true then other = then refl
either_way A B false then other = other refl

pub compare_exchange-found-requires : goal.compare_exchange-found-requires
compare_exchange-found-requires g c =
    let b = c.requires.bid in let h = c.args.bid in let turns = c.self.invariant.6 in
    let book : h.seen.book ≡ c.self.inside.turns.book = c.requires.of ∙ sym (ap (λ w. w.book) turns ∙ ap (λ o. o.book) c.self.view_is) in (
      ap (λ w. w.tracked) turns,
      book,
      b.pen_of ∙ book,
      b.names_of,
      rw (ap (λ w. w.key) turns) (add_opened g.K.Key.key_at c.args.before.now.log c.args.given.now.log h.seen.log h.pen.nib h.offer.ask h.offer.state 1 1 c.args.turns 1 b.begun.0 b.begun.1 b.told.0 b.told.1 b.right b.ticket b.own b.word b.moving b.may b.lets),
    )

pub returns-clause-done : goal.returns-clause-done
returns-clause-done g c =
    let b = c.requires.bid in let h = c.args.bid in let a = c.args.before.now.log in let gl = c.args.given.now.log in let old : ℕ = c.args.turns in
    let x = c.compare_exchange-found in let e = x.ensures in let found : ℕ = x.result in let key = ap (λ w. w.key) c.self.invariant.6 in
    let w : View NoteView ℕ = (x.new.seen.log, (x.new.pen.nib, x.new.offer.state)) in
    let then : Adds g.K.Key.key_at (step 1 old (old + 1) h.offer.ask) (h.seen.log, (h.pen.nib, h.offer.state)) found w =
    subst (λ (k : ℕ). Adds g.K.Key.key_at (step k old (old + 1) h.offer.ask) (h.seen.log, (h.pen.nib, h.offer.state)) found w) key e.7 in
    either_way _ _ (found == old)
    (λ is. added g.K.Key.key_at a gl h.seen.log h.pen.nib h.offer.ask 1 1 old (old + 1) found h.offer.state w b.begun.0 b.begun.1 b.told.0 b.told.1 b.own b.word (grind (arith, nat_tests, is)) then)
    (λ isnt.
    let other : found ≢ old = λ same. let t : (found == old) ≡ true = grind (arith, nat_tests, same) in not_both (found == old) t isnt in
    let stays = as_it_was g.K.Key.key_at h.seen.log h.pen.nib h.offer.ask 1 old (old + 1) found h.offer.state w other then in record {
      pen_of = e.5 ∙ (b.pen_of ∙ sym e.0);
      names_of = e.2 ∙ (b.names_of ∙ sym e.1);
      begun = (b.begun.0, prefix_trans a h.seen.log x.new.seen.log b.begun.1 e.6);
      told = (b.told.0, prefix_trans gl h.seen.log x.new.seen.log b.told.1 e.6);
      right = ap (λ (n : Nib). n.right) stays.0 ∙ b.right;
      ticket = ap (λ (n : NoteView). n.ticket) e.3 ∙ (b.ticket ∙ sym (ap (λ (n : Nib). n.key) stays.0));
      own = ap (λ (n : Nib). n.key) stays.0 ∙ (b.own ∙ sym (ap (λ (n : NoteView). ticket_of n.by (notes_of a)) e.3));
      word = b.word;
      moving = rw (e.3, stays.0) b.moving;
      may = rw e.3 b.may;
      lets = rw (e.3, stays.1) b.lets;
    })
