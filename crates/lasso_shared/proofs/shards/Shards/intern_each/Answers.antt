use Rattle.std.proofs.Common.{List, refl, sym, subst, arith}
use Rattle.std.proofs.lemmas.Result.{err_from_is_err_and}
use Rattle.lasso_parts.specs.Texts.{Text}
use Rattle.lasso_single.proofs.KeyLists.{texts_more, texts_split}
use Rattle.lasso_shared.proofs.Batched.{InternedSo, interned_none, interned_push, stopped_at}
use Rattle.lasso_shared.proofs.shards.Shards.intern_each.Goals as goal

pub loop-i-init : goal.loop-i-init
loop-i-init g c = record {
  interned = interned_none g.K.Key.key_at c.args.self.now.log.opening _ _ _ refl;
  room = omega (arith, c.requires.room);
}

pub loop-i-preserved : goal.loop-i-preserved
loop-i-preserved g c =
    let o = c.args.self.now.log.opening in
    let told = c.in_ok-key.ensures in
    let key = c.in_ok-key.key in
    let more = interned_push g.K.Key.key_at o c.args.pass.now c.loop-i.pass c.intern.new.pass _ _ key c.args.keys.now.items c.loop-i.keys.items c.push_reserved.new.self.items c.loop-i.invariant.interned told.same told.call c.push_reserved.ensures.items in record {
      interned = subst (λ (ts : List Text). InternedSo g.K.Key.key_at o c.args.pass.now c.intern.new.pass ts c.args.keys.now.items c.push_reserved.new.self.items) (sym (texts_more c.args.texts.now c.loop-i.i _ c.loop-i-test.true)) more;
      room = omega (arith, c.loop-i.invariant.room, c.push_reserved.ensures.len, c.push_reserved.ensures.capacity, c.loop-i-test.true);
    }

pub returns-in_err-key-clause-refused : goal.returns-in_err-key-clause-refused
returns-in_err-key-clause-refused g c =
    let o = c.args.self.now.log.opening in
    let error = c.in_err-key.field-0.0 in
    let p = err_from_is_err_and c.from_residual.result c.from_residual.ensures.1 in
    rw (p.1, p.2) (stopped_at g.K.Key.key_at o c.args.pass.now c.loop-i.pass c.intern.new.pass _ _ _ _ error c.args.keys.now.items c.loop-i.keys.items (texts_split c.args.texts.now c.loop-i.i _ c.loop-i-test.true) c.loop-i.invariant.interned c.in_err-key.ensures.call)
