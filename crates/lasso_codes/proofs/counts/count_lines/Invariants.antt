use Rattle.std.proofs.Common.{ℕ, ◌≡◌, ◌+◌, List, Some, length, sum, ◌-◌, ◌^◌}
use Rattle.std.specs.Prelude.{vec_len}
use Rattle.lasso_codes.specs.Stages.{Counting}
use Rattle.lasso_codes.proofs.counts.count_lines.Given as goal

-- the lines before this number were counted
abbrev pub invariant-loop-number : goal.invariant-loop-number
invariant-loop-number g l = record {
  lengths : vec_len l.counts ≡ length l.rodeo.texts;
  total : sum l.counts.items + 1 ≡ l.number;
  ahead : (bytes : List ℕ) → l.fn.input.left ≡ Some bytes → (rest : List ℕ) × (l.input.left ≡ Some rest) × Counting bytes rest l.fn.rule.only_utf8 l.number l.fn.rodeo l.rodeo l.counts.items;
  reads : l.input.failures ≡ l.fn.input.failures;
}

abbrev pub decreases-loop-number : goal.decreases-loop-number
decreases-loop-number g l = 2 ^ 64 - 1 - l.number
