use Rattle.std.proofs.Common.{List, refl, sym, subst, arith}
use Rattle.lasso_parts.specs.Texts.{Text}
use Rattle.lasso_single.proofs.KeyLists.{texts_more}
use Rattle.lasso_shared.proofs.Batched.{GotSo, got_none, got_push}
use Rattle.lasso_shared.proofs.shards.Shards.get_each.Goals as goal

pub loop-i-init : goal.loop-i-init
loop-i-init g c = record {
  got = got_none g.K.Key.key_at c.args.self.now.log.opening _ _ _ refl;
  room = omega (arith, c.requires.room);
}

pub loop-i-preserved : goal.loop-i-preserved
loop-i-preserved g c =
    let o = c.args.self.now.log.opening in
    let told = c.get-found.ensures in
    let found = c.get-found.result in
    let more = got_push g.K.Key.key_at o c.args.pass.now c.loop-i.pass c.get-found.new.pass _ _ found c.args.keys.now.items c.loop-i.keys.items c.push_reserved.new.self.items c.loop-i.invariant.got told.same told.call c.push_reserved.ensures.items in record {
      got = subst (λ (ts : List Text). GotSo g.K.Key.key_at o c.args.pass.now c.get-found.new.pass ts c.args.keys.now.items c.push_reserved.new.self.items) (sym (texts_more c.args.texts.now c.loop-i.i _ c.loop-i-test.true)) more;
      room = omega (arith, c.loop-i.invariant.room, c.push_reserved.ensures.len, c.push_reserved.ensures.capacity, c.loop-i-test.true);
    }
