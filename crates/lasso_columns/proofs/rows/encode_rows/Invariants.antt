use Rattle.std.proofs.Common.{◌≡◌, ◌+◌, ◌≤◌, length}
use Rattle.lasso_input.specs.Lines.{lines_of}
use Rattle.lasso_columns.specs.Rows.{word_of, EncodesRows}
use Rattle.lasso_columns.proofs.rows.encode_rows.Given as goal

-- the lines before the rest were encoded, at most one for each byte before the rest
abbrev pub invariant-loop-line : goal.invariant-loop-line
invariant-loop-line g l = record {
  rows : EncodesRows (word_of l.null) l.fn.rodeo (lines_of l.bytes) (lines_of l.lines) l.fn.entries.items l.rodeo l.entries.items;
  counted : length l.fn.entries.items + l.number ≡ length l.entries.items;
  fits : l.number + length l.lines ≤ length l.bytes;
}

abbrev pub decreases-loop-line : goal.decreases-loop-line
decreases-loop-line g l = length l.lines
