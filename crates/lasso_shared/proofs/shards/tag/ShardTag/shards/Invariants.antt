use Rattle.std.proofs.Common.{◌≡◌, ◌<◌, ◌≤◌, ℕ, [], Some, length, slice_get}
use Rattle.std.specs.Prelude.{vec_capacity}
use Rattle.lasso_parts.specs.Hashing.{hash_by}
use Rattle.lasso_log.specs.Views.{list_of}
use Rattle.lasso_shared.proofs.Built.{CountedBelow}
use Rattle.lasso_shared.proofs.shards.tag.ShardTag.shards.Given as goal

-- each lock so far has the tag of its number, and its shard's texts are counted
abbrev pub invariant-loop-number : goal.invariant-loop-number
invariant-loop-number g l = record {
  below : l.number ≤ 16;
  room : 16 ≤ vec_capacity l.locks;
  log : l.self.log ≡ l.fn.self.log;
  hasher : l.self.hasher ≡ l.fn.self.hasher;
  long : length l.locks.items ≡ l.number;
  tags : (i : ℕ) → i < l.number → slice_get l.locks.items i ≡ Some (record l.fn.self { number = i });
  all : length l.counts ≡ 16;
  counted : CountedBelow (hash_by g.S.BuildHasher g.S.Hasher.Hasher l.fn.self.hasher) (list_of l.fn.self.log []) l.number l.counts;
}
