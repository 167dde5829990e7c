use Rattle.std.proofs.Common.{◌≡◌, ◌≤◌, ◌*◌, length, take}
use Rattle.lasso_codes.specs.Columns.{entries_of}
use Rattle.lasso_codes.proofs.entry_parts.put_entries.Given as goal

-- the entries of the numbers before the index are there
abbrev pub invariant-loop-number : goal.invariant-loop-number
invariant-loop-number l = record {
  fits : l.filled ≤ l.number-index * 11;
  long : length l.bytes ≡ length l.fn.bytes;
  put : take l.filled l.bytes ≡ entries_of l.binary (take l.number-index l.numbers);
}
