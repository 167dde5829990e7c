use Rattle.std.proofs.Common.{ℕ, ◌≡◌, ◌-◌, ◌≤◌, List, Some}
use Rattle.lasso_columns.specs.Rows.{word_of}
use Rattle.lasso_codes.specs.Decode.{line_at}
use Rattle.lasso_codes.specs.Stages.{LinesAhead}
use Rattle.lasso_codes.specs.Streams.{Writes}
use Rattle.lasso_codes.proofs.decode.write_lines.Given as goal

-- some lines were written, and the others follow
abbrev pub invariant-loop-count : goal.invariant-loop-count
invariant-loop-count g l = record {
  within : l.count ≤ l.header.lines;
  ahead : (bytes : List ℕ) → l.fn.input.left ≡ Some bytes → (rest : List ℕ) × (l.input.left ≡ Some rest)
      × Writes l.fn.output.written l.output.written (LinesAhead (line_at (word_of l.null) l.table) l.header.binary bytes rest l.count);
  reads : l.input.failures ≡ l.fn.input.failures;
  writes : l.output.failures ≡ l.fn.output.failures;
  gone : l.output.gone ≡ l.fn.output.gone;
}

abbrev pub decreases-loop-count : goal.decreases-loop-count
decreases-loop-count g l = l.header.lines - l.count
