use Rattle.std.proofs.Common.{◌≡◌, take}
use Rattle.std.specs.Prelude.{flat_map}
use Rattle.lasso_codes.specs.Distinct.{with_feed}
use Rattle.lasso_codes.specs.Streams.{Writes}
use Rattle.lasso_codes.proofs.columns.write_lines.Given as goal

-- the texts before the position are written
abbrev pub invariant-loop-position : goal.invariant-loop-position
invariant-loop-position g l = record {
  written : Writes l.fn.output.written l.output.written (λ part. part ≡ flat_map with_feed (take l.position l.table));
  writes : l.output.failures ≡ l.fn.output.failures;
  gone : l.output.gone ≡ l.fn.output.gone;
}
