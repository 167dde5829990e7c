use Rattle.std.proofs.Common.{◌≡◌, ◌≤◌, ◌++◌, length, take}
use Rattle.std.specs.Prelude.{flat_map}
use Rattle.lasso_codes.specs.Columns.{entry_at, entry_bytes}
use Rattle.lasso_codes.specs.Streams.{Writes}
use Rattle.lasso_codes.proofs.columns.write_entries.Given as goal

-- the entries of the codes before the index are written, or are in the block
abbrev pub invariant-loop-code : goal.invariant-loop-code
invariant-loop-code g l = record {
  fits : l.filled ≤ 4096;
  long : length l.block ≡ 4096;
  written : Writes l.fn.output.written l.output.written (λ part. part ++ take l.filled l.block ≡ flat_map (λ n. entry_bytes l.binary (entry_at n)) (take l.code-index l.codes));
  writes : l.output.failures ≡ l.fn.output.failures;
  gone : l.output.gone ≡ l.fn.output.gone;
}
