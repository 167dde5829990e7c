use Rattle.std.proofs.Common.{ℕ, ◌≡◌, List, Some}
use Rattle.lasso_codes.proofs.MergedColumns.{Merging}
use Rattle.lasso_codes.proofs.merge.merge_columns.Given as goal

-- the columns before this one were merged
abbrev pub invariant-loop-column : goal.invariant-loop-column
invariant-loop-column g l = record {
  ahead : (bytes : List ℕ) → l.fn.input.left ≡ Some bytes → (rest : List ℕ) × (l.input.left ≡ Some rest)
      × Merging l.rule.only_utf8 bytes rest l.limits l.column l.rodeo l.numbers.items;
  reads : l.input.failures ≡ l.fn.input.failures;
}
