use Rattle.std.proofs.Common.{◌≡◌, ◌<◌, length}
use Rattle.lasso_codes.specs.Columns.{entries_of}
use Rattle.lasso_codes.specs.Streams.{Writes}
use Rattle.lasso_codes.proofs.Written.{HasLeft}
use Rattle.lasso_codes.proofs.entry_parts.write_rounds.Given as goal

-- all entries but those of the rest are written
abbrev pub invariant-loop-rest : goal.invariant-loop-rest
invariant-loop-rest g l = record {
  some : 0 < length l.parts;
  written : Writes l.fn.output.written l.output.written (HasLeft (entries_of l.binary l.fn.numbers) (entries_of l.binary l.rest));
  writes : l.output.failures ≡ l.fn.output.failures;
  gone : l.output.gone ≡ l.fn.output.gone;
}

abbrev pub decreases-loop-rest : goal.decreases-loop-rest
decreases-loop-rest g l = length l.rest
