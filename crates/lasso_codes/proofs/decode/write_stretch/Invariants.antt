use Rattle.std.proofs.Common.{◌≡◌, ◌≤◌, length}
use Rattle.lasso_columns.specs.Rows.{word_of}
use Rattle.lasso_codes.specs.Decode.{line_at}
use Rattle.lasso_codes.specs.Stages.{DecodesOn}
use Rattle.lasso_codes.proofs.decode.write_stretch.Given as goal

-- the lines of the entries before the position were written, and the others follow
abbrev pub invariant-loop-position : goal.invariant-loop-position
invariant-loop-position g l = record {
  within : l.used ≤ length l.fn.stretch;
  written : DecodesOn (line_at (word_of l.fn.null) l.fn.table) l.fn.header.binary l.fn.stretch l.fn.count l.fn.output.written (l.position, l.used) l.output.written;
  writes : l.output.failures ≡ l.fn.output.failures;
  gone : l.output.gone ≡ l.fn.output.gone;
}
