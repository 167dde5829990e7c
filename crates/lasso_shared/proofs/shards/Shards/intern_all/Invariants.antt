use Rattle.std.proofs.Common.{◌≡◌, ◌+◌, ◌-◌, ◌≤◌, length, map, take, vec_len}
use Rattle.std.specs.Vec.{vec_capacity}
use Rattle.lasso_log.specs.Views.{IsSamePass}
use Rattle.lasso_shared.specs.PassCalls.{HasInterned}
use Rattle.lasso_shared.proofs.shards.Shards.intern_all.Given as goal

-- the texts before `done` were interned, and there is room for the keys of the others
abbrev pub invariant-loop-done : goal.invariant-loop-done
invariant-loop-done g l = record {
  ahead : l.ahead.list.of ≡ l.self.log;
  same : IsSamePass l.pass l.fn.pass;
  within : l.done ≤ length l.texts;
  room : vec_len l.keys + (length l.texts - l.done) ≤ vec_capacity l.keys;
  interned : HasInterned g.K.Key.key_at l.self.log l.fn.pass l.pass (take l.done (map (λ t. t.now) l.texts)) l.fn.keys.items l.keys.items;
}

abbrev pub decreases-loop-done : goal.decreases-loop-done
decreases-loop-done g l = length l.texts - l.done
