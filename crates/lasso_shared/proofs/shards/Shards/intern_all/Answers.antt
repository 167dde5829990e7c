use Rattle.std.proofs.Common.{◌≡◌, ◌≢◌, ◌≤◌, List, length, Result, Ok, Err, IfErr, inr, refl, ◌∙◌, arith, rules}
use Rattle.std.proofs.lemmas.Bool.Decides.{nat_tests}
use Rattle.std.proofs.lemmas.Result.{err_from_is_err_and}
use Rattle.lasso_shared.proofs.Together.{begun_with, interned_none_of, interned_whole, seen_more}
use Rattle.lasso_shared.proofs.shards.Shards.intern_all.Goals as goal

-- what follows from what holds of an error holds of it
of_an_error : {T E : Type 0} (P Q : E → Type 0) (r : Result T E) → ((e : E) → P e → Q e) → IfErr r P → IfErr r Q
of_an_error P Q (Ok x) follows h = h
of_an_error P Q (Err e) follows h = follows e h

pub intern_each-requires-clause-room : goal.intern_each-requires-clause-room
intern_each-requires-clause-room g c = omega (arith, c.in_ok-reserve.ensures.ok)

pub returns-then-hints_serve-clause-interned : goal.returns-then-hints_serve-clause-interned
returns-then-hints_serve-clause-interned g c = rw (← c.in_ok-reserve.ensures.items) c.intern_each.ensures.interned

pub returns-then-hints_serve-clause-refused : goal.returns-then-hints_serve-clause-refused
returns-then-hints_serve-clause-refused g c = rw (← c.in_ok-reserve.ensures.items) (of_an_error _ _ _ (λ e h. inr h) c.intern_each.ensures.refused)

pub returns-then-is_empty-clause-interned : goal.returns-then-is_empty-clause-interned
returns-then-is_empty-clause-interned g c =
    let none : length c.args.texts.now ≡ 0 = grind (arith, nat_tests, c.if-is_empty.true, c.is_empty.ensures) in
    interned_none_of g.K.Key.key_at c.args.self.now.log (λ t. t.now) c.args.pass.now c.args.texts.now c.args.keys.now.items _ none c.in_ok-reserve.ensures.items

pub loop-done-init : goal.loop-done-init
loop-done-init g c = record {
  ahead = search rules;
  same = (refl, refl);
  within = omega arith;
  room = omega (arith, c.in_ok-reserve.ensures.ok);
  interned = begun_with g.K.Key.key_at c.args.self.now.log c.args.pass.now c.args.keys.now.items _ c.in_ok-reserve.ensures.items;
}

pub loop-done-preserved : goal.loop-done-preserved
loop-done-preserved g c =
    let i = c.loop-done.invariant in
    let log = c.args.self.now.log in
    let looked = c.look_ahead.ensures in
    let told = c.in_ok-next.ensures in
    let so_far = seen_more g.K.Key.key_at log c.args.pass.now c.loop-done.pass c.look_ahead.new.pass _ c.args.keys.now.items c.loop-done.keys.items i.interned looked.same looked.since in record {
      ahead = told.of;
      same = (told.same.0 ∙ (looked.same.0 ∙ i.same.0), told.same.1 ∙ (looked.same.1 ∙ i.same.1));
      within = told.done.1;
      room = told.room;
      interned = told.interned c.args.pass.now c.args.keys.now.items so_far;
    }

pub returns-in_err-next-clause-refused : goal.returns-in_err-next-clause-refused
returns-in_err-next-clause-refused g c =
    let i = c.loop-done.invariant in
    let log = c.args.self.now.log in
    let looked = c.look_ahead.ensures in
    let so_far = seen_more g.K.Key.key_at log c.args.pass.now c.loop-done.pass c.look_ahead.new.pass _ c.args.keys.now.items c.loop-done.keys.items i.interned looked.same looked.since in
    let p = err_from_is_err_and c.from_residual-in_err-next.result c.from_residual-in_err-next.ensures.1 in
    rw (p.1, p.2) (inr (c.in_err-next.ensures.refused c.args.pass.now c.args.keys.now.items so_far))

pub returns-clause-interned : goal.returns-clause-interned
returns-clause-interned g c =
    let i = c.loop-done.invariant in
    let some : length c.args.texts.now ≢ 0 = λ none. grind (arith, nat_tests, c.if-is_empty.false, c.is_empty.ensures, none) in
    let all : length c.args.texts.now ≤ c.loop-done.done = omega (arith, c.loop-done-test.false) in
    interned_whole g.K.Key.key_at c.args.self.now.log (λ t. t.now) c.args.pass.now c.loop-done.pass c.args.texts.now c.loop-done.done c.args.keys.now.items c.loop-done.keys.items some all i.interned
