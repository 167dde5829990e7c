use Rattle.std.proofs.Common.{◌++◌, ◌∷◌, List, [], refl, sym, ◌∙◌, subst, arith, rules}
use Rattle.lasso_parts.specs.Texts.{Text}
use Rattle.lasso_single.proofs.KeyLists.{texts_more, texts_split}
use Rattle.lasso_shared.specs.PassCalls.{HasInterned}
use Rattle.lasso_shared.proofs.Together.{interned_more, refused_next, seen_more}
use Rattle.lasso_shared.proofs.shards.Shards.intern_many.Goals as goal

pub loop-i-preserved : goal.loop-i-preserved
loop-i-preserved g c =
    let log = c.args.self.now.log in
    let i = c.loop-i.invariant in
    let told = c.in-Some.ensures in
    let key = c.in-Ok.key in
    let first = c.loop-i.pass in
    let now = c.intern_next_at_once.new.pass in record {
      ahead = told.of;
      same = (told.same.0 ∙ i.same.0, told.same.1 ∙ i.same.1);
      tally = told.tally;
      past = omega (arith, i.past);
      room = omega (arith, i.room, c.push_reserved.ensures.len, c.push_reserved.ensures.capacity, c.loop-i-test.true);
      interned = λ first begun h.
          subst (λ (ts : List Text). HasInterned g.K.Key.key_at log first now ts begun c.push_reserved.new.self.items) (sym (texts_more c.args.texts.now c.loop-i.i _ c.loop-i-test.true))
          (interned_more g.K.Key.key_at log first c.loop-i.pass now _ _ key begun c.loop-i.keys.items c.push_reserved.new.self.items (i.interned first begun h) told.same (rw c.in-Ok.is at told.call) c.push_reserved.ensures.items);
    }

pub returns-in_default-clause-interned : goal.returns-in_default-clause-interned
returns-in_default-clause-interned g c = λ first begun h.
    let told = c.in_default.ensures in
    seen_more g.K.Key.key_at c.args.self.now.log first c.loop-i.pass c.intern_next_at_once.new.pass _ begun c.loop-i.keys.items (c.loop-i.invariant.interned first begun h) told.same (told.none refl)

pub returns-in-Err-clause-refused : goal.returns-in-Err-clause-refused
returns-in-Err-clause-refused g c = λ first begun h.
    let told = c.in-Some.ensures in
    refused_next g.K.Key.key_at c.args.self.now.log first c.loop-i.pass c.intern_next_at_once.new.pass _ _ _ _ c.in-Err.error begun c.loop-i.keys.items (texts_split c.args.texts.now c.loop-i.i _ c.loop-i-test.true) (c.loop-i.invariant.interned first begun h) (rw c.in-Err.is at told.call)
