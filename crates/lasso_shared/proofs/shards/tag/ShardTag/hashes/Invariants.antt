use Rattle.std.proofs.Common.{◌≡◌, ◌≤◌, [], length, map, take}
use Rattle.std.specs.Prelude.{vec_capacity}
use Rattle.lasso_parts.specs.Hashing.{hash_by}
use Rattle.lasso_log.specs.Views.{list_of}
use Rattle.lasso_shared.proofs.shards.tag.ShardTag.hashes.Given as goal

-- the texts so far were hashed
abbrev pub invariant-loop-position : goal.invariant-loop-position
invariant-loop-position g l = record {
  room : l.len ≤ vec_capacity l.hashes;
  long : length l.hashes.items ≡ l.position;
  hashed : l.hashes.items ≡ map (hash_by g.S.BuildHasher g.S.Hasher.Hasher l.self.hasher) (take l.position (list_of l.self.log []));
}
