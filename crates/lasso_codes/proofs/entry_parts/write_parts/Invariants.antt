use Rattle.std.proofs.Common.{◌≡◌, ◌*◌, take}
use Rattle.lasso_codes.specs.Columns.{entries_of}
use Rattle.lasso_codes.specs.Streams.{Writes}
use Rattle.lasso_codes.proofs.entry_parts.write_parts.Given as goal

-- the parts before the index are written
abbrev pub invariant-loop-index : goal.invariant-loop-index
invariant-loop-index g l = record {
  written : Writes l.fn.output.written l.output.written (λ part. part ≡ entries_of l.binary (take (l.index * 262144) l.numbers));
  writes : l.output.failures ≡ l.fn.output.failures;
  gone : l.output.gone ≡ l.fn.output.gone;
}
