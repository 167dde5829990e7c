use Rattle.std.proofs.Common.{◌≡◌, length}
use Rattle.lasso_parts.specs.Hashing.{hash_by}
use Rattle.lasso_single.specs.Hashes.{AreHashes}
use Rattle.lasso_single.proofs.rodeo.guessing.hash_all.Given as goal

-- the texts before the index were hashed
abbrev pub invariant-loop-i : goal.invariant-loop-i
invariant-loop-i g l = record {
  all : length l.hashes ≡ 32;
  hashed : AreHashes (hash_by g.S.BuildHasher g.S.Hasher.Hasher l.hasher) l.texts l.i l.hashes;
}
