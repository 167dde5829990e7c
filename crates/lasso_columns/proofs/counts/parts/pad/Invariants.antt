use Rattle.std.proofs.Common.{◌≡◌, ◌++◌, ◌≤◌, ◌-◌, vec_len, vec_capacity}
use Rattle.std.specs.Prelude.{replicate}
use Rattle.lasso_columns.proofs.counts.parts.pad.Given as goal

-- a zero was appended for each position so far
abbrev pub invariant-loop : goal.invariant-loop
invariant-loop l = record {
  items : l.counts.items ≡ l.fn.counts.items ++ replicate (l.counter - vec_len l.fn.counts) 0;
  room : vec_capacity l.counts ≡ vec_capacity l.fn.counts;
  from : vec_len l.fn.counts ≤ l.counter;
  few : l.counter - vec_len l.fn.counts ≤ l.len - vec_len l.fn.counts;
}
