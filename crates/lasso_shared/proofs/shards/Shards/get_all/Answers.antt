use Rattle.std.proofs.Common.{List, sym, ◌∙◌, subst, arith, rules}
use Rattle.lasso_parts.specs.Texts.{Text}
use Rattle.lasso_log.specs.Replies.{Get, Found}
use Rattle.lasso_log.specs.Views.{seen}
use Rattle.lasso_single.proofs.KeyLists.{texts_more}
use Rattle.lasso_shared.proofs.Batched.{GotSo, got_none, got_push, called_after}
use Rattle.lasso_shared.proofs.shards.Shards.get_all.Goals as goal

pub get_each-requires-clause-room : goal.get_each-requires-clause-room
get_each-requires-clause-room g c = omega (arith, c.in_ok-reserve.ensures.ok)

pub returns-then-hints_serve-clause-found : goal.returns-then-hints_serve-clause-found
returns-then-hints_serve-clause-found g c = rw (← c.in_ok-reserve.ensures.items) c.get_each.ensures.found

pub loop-i-init : goal.loop-i-init
loop-i-init g c = record {
  ahead = search rules;
  got = got_none g.K.Key.key_at c.args.self.now.log.opening _ _ _ c.in_ok-reserve.ensures.items;
  room = omega (arith, c.in_ok-reserve.ensures.ok);
}

pub loop-i-preserved : goal.loop-i-preserved
loop-i-preserved g c =
    let o = c.args.self.now.log.opening in
    let looked = c.look_ahead.ensures in
    let told = c.get_next-found.ensures in
    let found = c.get_next-found.result in
    let call = called_after g.K.Key.key_at o c.loop-i.pass c.look_ahead.new.pass (seen c.get_next-found.new.pass) (Get _) (Found found) looked.same looked.since told.call in
    let more = got_push g.K.Key.key_at o c.args.pass.now c.loop-i.pass c.get_next-found.new.pass _ _ found c.args.keys.now.items c.loop-i.keys.items c.push_reserved.new.self.items c.loop-i.invariant.got (told.same.0 ∙ looked.same.0, told.same.1 ∙ looked.same.1) call c.push_reserved.ensures.items in record {
      ahead = told.of;
      got = subst (λ (ts : List Text). GotSo g.K.Key.key_at o c.args.pass.now c.get_next-found.new.pass ts c.args.keys.now.items c.push_reserved.new.self.items) (sym (texts_more c.args.texts.now c.loop-i.i _ c.loop-i-test.true)) more;
      room = omega (arith, c.loop-i.invariant.room, c.push_reserved.ensures.len, c.push_reserved.ensures.capacity, c.loop-i-test.true);
    }
