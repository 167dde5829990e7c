use Rattle.std.proofs.Common.{◌≡◌, ◌+◌, map, take, vec_len}
use Rattle.std.specs.Vec.{vec_capacity}
use Rattle.lasso_single.specs.KeyLists.{AddsFound}
use Rattle.lasso_single.proofs.rodeo.Rodeo.get_ahead.Given as goal

-- the texts before the index have their keys
abbrev pub invariant-loop-i : goal.invariant-loop-i
invariant-loop-i g l = record {
  found : AddsFound g.K.Key.key_at l.self.texts (take l.i (map (λ t. t.now) l.texts)) l.fn.keys.items l.keys.items;
  len : vec_len l.keys ≡ vec_len l.fn.keys + l.i;
  capacity : vec_capacity l.keys ≡ vec_capacity l.fn.keys;
}
