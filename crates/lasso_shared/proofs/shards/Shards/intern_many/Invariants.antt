use Rattle.std.proofs.Common.{◌≡◌, ◌+◌, ◌-◌, ◌≤◌, length, map, vec_len}
use Rattle.std.specs.Vec.{vec_capacity}
use Rattle.lasso_parts.specs.Hashing.{hash_by}
use Rattle.lasso_log.specs.Views.{IsSamePass}
use Rattle.lasso_shared.specs.PassCalls.{InternsFurther}
use Rattle.lasso_shared.specs.Shards.{IsTally}
use Rattle.lasso_shared.proofs.shards.Shards.intern_many.Given as goal

-- the texts from the first position up to the index were interned, and there is room for the keys of the others
abbrev pub invariant-loop-i : goal.invariant-loop-i
invariant-loop-i g l = record {
  ahead : l.ahead.list.of ≡ l.self.log;
  same : IsSamePass l.pass l.fn.pass;
  tally : IsTally (hash_by g.S.BuildHasher g.S.Hasher.Hasher l.self.hasher) l.self.log l.tally.spine l.tally.counts;
  past : l.from ≤ l.i;
  room : vec_len l.keys + (length l.texts - l.i) ≤ vec_capacity l.keys;
  interned : InternsFurther g.K.Key.key_at l.self.log l.fn.pass l.pass (map (λ t. t.now) l.texts) l.from l.i l.fn.keys.items l.keys.items;
}
