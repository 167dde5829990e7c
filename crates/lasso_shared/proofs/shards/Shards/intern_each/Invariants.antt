use Rattle.std.proofs.Common.{◌+◌, ◌-◌, ◌≤◌, length, map, take, vec_len}
use Rattle.std.specs.Vec.{vec_capacity}
use Rattle.lasso_shared.proofs.Batched.{InternedSo}
use Rattle.lasso_shared.proofs.shards.Shards.intern_each.Given as goal

-- the texts before the index were interned, and there is room for the keys of the others
abbrev pub invariant-loop-i : goal.invariant-loop-i
invariant-loop-i g l = record {
  interned : InternedSo g.K.Key.key_at l.self.log.opening l.fn.pass l.pass (take l.i (map (λ t. t.now) l.texts)) l.fn.keys.items l.keys.items;
  room : vec_len l.keys + (length l.texts - l.i) ≤ vec_capacity l.keys;
}
