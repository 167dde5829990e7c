use Rattle.std.proofs.Common.{List, take, sym, subst, arith}
use Rattle.lasso_single.specs.KeyLists.{AddsTexts}
use Rattle.lasso_single.proofs.Found.{texts_none, texts_push, keys_more, has_text}
use Rattle.lasso_single.proofs.text_list.TextList.resolve_all.Goals as goal

pub loop-i-init : goal.loop-i-init
loop-i-init g c = record {
  texts = texts_none g.K.Key.number c.args.self.now.texts _ _ c.in_ok-reserve.ensures.items;
  room = omega (arith, c.in_ok-reserve.ensures.ok);
}
