use Rattle.std.proofs.Common.{◌≡◌, map, take}
use Rattle.lasso_single.specs.Copies.{bytes_of, clone_size}
use Rattle.lasso_shared.proofs.shards.Shards.of_texts.Given as goal

-- the texts so far were copied
abbrev pub invariant-loop-text : goal.invariant-loop-text
invariant-loop-text g l = record {
  texts : l.opening.texts ≡ take l.text-index (map (λ t. t.now) l.texts);
  used : l.opening.bucket.used ≡ bytes_of (take l.text-index (map (λ t. t.now) l.texts));
  size : l.opening.bucket.size ≡ clone_size (map (λ t. t.now) l.texts);
}
