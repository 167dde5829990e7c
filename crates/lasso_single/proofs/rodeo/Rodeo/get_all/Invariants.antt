use Rattle.std.proofs.Common.{◌+◌, ◌-◌, ◌≤◌, length, map, take, vec_len}
use Rattle.std.specs.Vec.{vec_capacity}
use Rattle.lasso_single.specs.KeyLists.{AddsFound}
use Rattle.lasso_single.proofs.rodeo.Rodeo.get_all.Given as goal

-- the texts before the index have their keys, and there is room for those of the others
abbrev pub invariant-loop-from : goal.invariant-loop-from
invariant-loop-from g l = record {
  inside : l.from ≤ length l.texts;
  found : AddsFound g.K.Key.key_at l.self.texts (take l.from (map (λ t. t.now) l.texts)) l.fn.keys.items l.keys.items;
  room : vec_len l.keys + (length l.texts - l.from) ≤ vec_capacity l.keys;
}

abbrev pub decreases-loop-from : goal.decreases-loop-from
decreases-loop-from g l = length l.texts - l.from
