use Rattle.std.proofs.Common.{◌≡◌, map, take}
use Rattle.lasso_shared.proofs.shards.Shards.of_keywords.Given as goal

-- the keywords before the index were put, and the bucket is as it was
abbrev pub invariant-loop-keyword : goal.invariant-loop-keyword
invariant-loop-keyword g l = record {
  texts : l.opening.texts ≡ take l.keyword-index (map (λ t. t.now) l.keywords);
  used : l.opening.bucket.used ≡ 0;
  size : l.opening.bucket.size ≡ 4096;
}
