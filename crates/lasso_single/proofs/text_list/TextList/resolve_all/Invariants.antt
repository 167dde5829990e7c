use Rattle.std.proofs.Common.{◌+◌, ◌-◌, ◌≤◌, length, take, vec_len}
use Rattle.std.specs.Vec.{vec_capacity}
use Rattle.lasso_single.specs.KeyLists.{AddsTexts}
use Rattle.lasso_single.proofs.text_list.TextList.resolve_all.Given as goal

-- the keys before the index have their texts, and there is room for those of the others
abbrev pub invariant-loop-i : goal.invariant-loop-i
invariant-loop-i g l = record {
  texts : AddsTexts g.K.Key.number l.self.texts (take l.i l.keys) l.fn.texts.items l.texts.items;
  room : vec_len l.texts + (length l.keys - l.i) ≤ vec_capacity l.texts;
}
