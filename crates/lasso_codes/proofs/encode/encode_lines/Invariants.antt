use Rattle.std.proofs.Common.{ℕ, ◌≡◌, List, Some, ◌-◌, ◌^◌}
use Rattle.lasso_columns.specs.Rows.{word_of}
use Rattle.lasso_codes.specs.Stages.{Encoding}
use Rattle.lasso_codes.proofs.encode.encode_lines.Given as goal

-- the lines before this number have their numbers
abbrev pub invariant-loop-number : goal.invariant-loop-number
invariant-loop-number g l = record {
  ahead : (bytes : List ℕ) → l.fn.input.left ≡ Some bytes → (rest : List ℕ) × (l.input.left ≡ Some rest)
      × Encoding bytes rest l.fn.rule.only_utf8 l.number (word_of l.fn.null) l.fn.rodeo l.rodeo l.numbers.items;
  reads : l.input.failures ≡ l.fn.input.failures;
}

abbrev pub decreases-loop-number : goal.decreases-loop-number
decreases-loop-number g l = 2 ^ 64 - 1 - l.number
