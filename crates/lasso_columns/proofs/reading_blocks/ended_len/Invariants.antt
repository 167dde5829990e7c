use Rattle.std.proofs.Common.{◌≤◌, drop, length}
use Rattle.lasso_input.specs.Lines.{NoFeed}
use Rattle.lasso_columns.proofs.reading_blocks.ended_len.Given as goal

-- the bytes from the count on have no line feed
abbrev pub invariant-loop-count : goal.invariant-loop-count
invariant-loop-count l = record {
  within : l.count ≤ length l.bytes;
  begun : NoFeed (drop l.count l.bytes);
}

abbrev pub decreases-loop-count : goal.decreases-loop-count
decreases-loop-count l = l.count
