use Rattle.std.proofs.Common.{ℕ, ◌≡◌, ◌==◌, get_or, length, sum, take}
use Rattle.std.specs.List.{count_by}
use Rattle.lasso_guide.proofs.word_counts.tally.Given as goal

-- the keys before the index are counted
abbrev pub invariant-loop-key : goal.invariant-loop-key
invariant-loop-key g l = record {
  counts : (n : ℕ) → get_or l.counts.items n 0 ≡ count_by (λ key. g.K.Key.number key == n) (take l.key-index l.keys);
  whole : sum l.counts.items ≡ l.key-index;
  length : length l.counts.items ≡ l.texts;
}
