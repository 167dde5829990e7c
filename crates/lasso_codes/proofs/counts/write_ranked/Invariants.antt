use Rattle.std.proofs.Common.{◌≡◌, map, take}
use Rattle.std.specs.Prelude.{flat_map}
use Rattle.lasso_codes.specs.Counts.{count_line, pair_by}
use Rattle.lasso_codes.specs.Streams.{Writes}
use Rattle.lasso_codes.proofs.counts.write_ranked.Given as goal

-- the ranked lines before the index are written
abbrev pub invariant-loop-one : goal.invariant-loop-one
invariant-loop-one g l = record {
  written : Writes l.fn.output.written l.output.written (λ part. part ≡ flat_map count_line (map (pair_by g.T.AsSlice.items) (take l.one-index l.ranked)));
  writes : l.output.failures ≡ l.fn.output.failures;
  gone : l.output.gone ≡ l.fn.output.gone;
}
