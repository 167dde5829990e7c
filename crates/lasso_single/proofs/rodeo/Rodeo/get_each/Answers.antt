use Rattle.std.proofs.Common.{List, sym, ap, subst, arith, refl}
use Rattle.lasso_parts.specs.Texts.{Text}
use Rattle.lasso_single.specs.Interner.{InternerView}
use Rattle.lasso_single.specs.KeyLists.{AddsFound}
use Rattle.lasso_single.proofs.Found.{found_none, found_push, key_of_same}
use Rattle.lasso_single.proofs.KeyLists.{texts_more}
use Rattle.lasso_single.proofs.rodeo.Rodeo.get_each.Goals as goal

pub loop-i-init : goal.loop-i-init
loop-i-init g c = record {
  found = found_none g.K.Key.key_at c.args.self.now.texts _ _ refl;
  len = omega arith;
  capacity = refl;
}

pub push_reserved-requires : goal.push_reserved-requires
push_reserved-requires g c = omega (arith, c.requires.room, c.loop-i.invariant.len, c.loop-i.invariant.capacity, c.loop-i-test.true)

pub loop-i-preserved : goal.loop-i-preserved
loop-i-preserved g c =
    let here = key_of_same g.K.Key.key_at _ _ _ c.get_hashed-key.result (ap (λ (v : InternerView). v.texts) c.self.view_is) c.get_hashed-key.ensures in
    let more = found_push g.K.Key.key_at c.args.self.now.texts _ _ c.get_hashed-key.result c.args.keys.now.items c.loop-i.keys.items c.push_reserved.new.self.items c.loop-i.invariant.found here c.push_reserved.ensures.items in record {
      found = subst (λ (ts : List Text). AddsFound g.K.Key.key_at c.args.self.now.texts ts c.args.keys.now.items c.push_reserved.new.self.items) (sym (texts_more c.args.texts.now c.loop-i.i _ c.loop-i-test.true)) more;
      len = omega (arith, c.loop-i.invariant.len, c.push_reserved.ensures.len);
      capacity = omega (arith, c.push_reserved.ensures.capacity, c.loop-i.invariant.capacity);
    }
