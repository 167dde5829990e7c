use Rattle.std.proofs.Common.{ℕ, ◌≡◌, List, Some}
use Rattle.lasso_columns.specs.Rows.{word_of}
use Rattle.lasso_codes.specs.Streams.{Writes}
use Rattle.lasso_codes.proofs.DecodedLines.{ColumnsAhead}
use Rattle.lasso_codes.proofs.decode.write_decoded.Given as goal

-- the lines of the columns before this one are written
abbrev pub invariant-loop-column : goal.invariant-loop-column
invariant-loop-column g l = record {
  ahead : (bytes : List ℕ) → l.fn.input.left ≡ Some bytes → (rest : List ℕ) × (l.input.left ≡ Some rest)
      × Writes l.fn.output.written l.output.written (ColumnsAhead l.rule.only_utf8 bytes l.fn.limits (word_of l.fn.null) rest l.column);
  reads : l.input.failures ≡ l.fn.input.failures;
  writes : l.output.failures ≡ l.fn.output.failures;
  gone : l.output.gone ≡ l.fn.output.gone;
}
