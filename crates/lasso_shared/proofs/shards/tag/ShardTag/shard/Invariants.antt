use Rattle.std.proofs.Common.{◌≡◌, [], take}
use Rattle.lasso_parts.specs.Hashing.{hash_by}
use Rattle.lasso_log.specs.Views.{list_of}
use Rattle.lasso_shared.specs.Shards.{IsShardOf, count_in}
use Rattle.lasso_shared.proofs.shards.tag.ShardTag.shard.Given as goal

-- the index is the shard's of the texts so far
abbrev pub invariant-loop-position : goal.invariant-loop-position
invariant-loop-position g l = record {
  exact : IsShardOf (hash_by g.S.BuildHasher g.S.Hasher.Hasher l.self.hasher) l.self.number (take l.position (list_of l.self.log [])) l.index;
  counts : l.count ≡ count_in (hash_by g.S.BuildHasher g.S.Hasher.Hasher l.self.hasher) l.self.number (take l.position (list_of l.self.log []));
}
