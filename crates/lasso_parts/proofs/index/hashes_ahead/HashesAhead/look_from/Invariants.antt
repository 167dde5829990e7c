use Rattle.std.proofs.Common.{◌≡◌, ◌≤◌, length}
use Rattle.lasso_parts.specs.Hashing.{hash_by}
use Rattle.lasso_parts.specs.IndexTable.{AreHashesFrom}
use Rattle.lasso_parts.proofs.index.hashes_ahead.HashesAhead.look_from.Given as goal

-- the texts of the slots so far were hashed
abbrev pub invariant-loop-place : goal.invariant-loop-place
invariant-loop-place g l = record {
  all : length l.self.each ≡ 32;
  few : l.place ≤ l.size;
  most : l.size ≤ 32;
  hashed : AreHashesFrom (hash_by g.S.BuildHasher g.S.Hasher.Hasher l.hasher) (g.T.Texts.list l.texts) l.old.slots l.first l.place l.self.each;
}
