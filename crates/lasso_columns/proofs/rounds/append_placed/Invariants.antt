use Rattle.std.proofs.Common.{◌+◌, ◌-◌, ◌≤◌, length}
use Rattle.std.specs.Prelude.{vec_capacity, vec_len}
use Rattle.lasso_columns.proofs.PlacedEntries.{PutSoFar}
use Rattle.lasso_columns.proofs.rounds.append_placed.Given as goal

-- the entries before the index were appended, and there is room for the others
abbrev pub invariant-loop-i : goal.invariant-loop-i
invariant-loop-i l = record {
  put : PutSoFar l.base l.table l.part l.fn.entries.items l.i l.entries.items;
  room : vec_len l.entries + (length l.part - l.i) ≤ vec_capacity l.entries;
}
