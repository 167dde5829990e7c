use Rattle.std.proofs.Common.{ℕ, ◌≡◌, List, Some, map}
use Rattle.std.specs.Prelude.{All}
use Rattle.hex.specs.Hex.{IsBytes}
use Rattle.lasso_parts.specs.Texts.{Text}
use Rattle.lasso_codes.specs.Columns.{entry_at}
use Rattle.lasso_codes.specs.Limits.{line_texts}
use Rattle.lasso_codes.proofs.RecodedColumns.{Recoding}
use Rattle.lasso_codes.proofs.recode.add_columns.Given as goal

-- the columns before this one were taken
abbrev pub invariant-loop-column : goal.invariant-loop-column
invariant-loop-column g l = record {
  ahead : (list : List Text) → l.dictionary.texts ≡ line_texts list → All IsBytes list → (bytes : List ℕ) → l.fn.input.left ≡ Some bytes
      → (rest : List ℕ) × (l.input.left ≡ Some rest) × Recoding l.rule.only_utf8 l.limits list bytes rest l.column (map entry_at l.numbers.items);
  reads : l.input.failures ≡ l.fn.input.failures;
}
