use Rattle.std.proofs.Common.{◌+◌, ◌-◌, ◌≤◌, length, map, take, vec_len}
use Rattle.std.specs.Vec.{vec_capacity}
use Rattle.lasso_single.proofs.KeyLists.{Keyed}
use Rattle.lasso_single.proofs.rodeo.Rodeo.intern_list.Given as goal

-- the texts before the index were interned, and there is room for the keys of the others
abbrev pub invariant-loop-i : goal.invariant-loop-i
invariant-loop-i g l = record {
  keyed : Keyed g.row.K.Denot g.K.Key.key_at l.fn.self (take l.i (map (λ t. t.now) l.texts)) l.fn.keys.items l.self l.keys.items;
  room : vec_len l.keys + (length l.texts - l.i) ≤ vec_capacity l.keys;
}
