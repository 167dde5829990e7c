use Rattle.std.proofs.Common.{◌≡◌, ℕ, List, Some, length}
use Rattle.lasso_input.specs.Lines.{lines_of}
use Rattle.lasso_columns.specs.Rows.{word_of}
use Rattle.lasso_columns.proofs.Streamed.{Streamed}
use Rattle.lasso_columns.proofs.stream.encode_stream_by.Given as goal

-- the first lines were encoded, and the others are left
abbrev pub invariant-loop-goes_on : goal.invariant-loop-goes_on
invariant-loop-goes_on g l = record {
  stream : (bytes : List ℕ) → g.I.Read.remaining l.fn.input ≡ Some bytes → Streamed l.goes_on l.fn.by (word_of l.null) l.fn.rodeo (lines_of bytes) l.fn.entries.items l.rodeo l.entries.items l.encoder (g.I.Read.remaining l.input);
  by : l.encoder.by ≡ l.fn.by;
  start : l.start ≡ length l.fn.entries.items;
}

abbrev pub decreases-loop-goes_on : goal.decreases-loop-goes_on
decreases-loop-goes_on g l = l.encoder.rounds_left
