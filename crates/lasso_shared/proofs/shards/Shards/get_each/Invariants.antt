use Rattle.std.proofs.Common.{◌+◌, ◌-◌, ◌≤◌, length, map, take, vec_len}
use Rattle.std.specs.Vec.{vec_capacity}
use Rattle.lasso_shared.proofs.Batched.{GotSo}
use Rattle.lasso_shared.proofs.shards.Shards.get_each.Given as goal

-- the texts before the index were looked up, and there is room for what is found of the others
abbrev pub invariant-loop-i : goal.invariant-loop-i
invariant-loop-i g l = record {
  got : GotSo g.K.Key.key_at l.self.log.opening l.fn.pass l.pass (take l.i (map (λ t. t.now) l.texts)) l.fn.keys.items l.keys.items;
  room : vec_len l.keys + (length l.texts - l.i) ≤ vec_capacity l.keys;
}
