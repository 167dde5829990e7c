use Rattle.std.proofs.Common.{length, ◌≡◌}
use Rattle.lasso_codes.specs.Streams.{Writes}
use Rattle.lasso_codes.proofs.Written.{HasLeft}
use Rattle.lasso_codes.proofs.output.write_bytes.Given as goal

abbrev pub invariant-loop-rest : goal.invariant-loop-rest
invariant-loop-rest g l = record {
  written : Writes l.fn.output.written l.output.written (HasLeft l.fn.bytes l.rest);
  writes : l.output.failures ≡ l.fn.output.failures;
  gone : l.output.gone ≡ l.fn.output.gone;
}

abbrev pub decreases-loop-rest : goal.decreases-loop-rest
decreases-loop-rest g l = length l.rest
