use Rattle.std.proofs.Common.{◌+◌, ◌*◌, ◌<◌, ◌≤◌, length}
use Rattle.lasso_input.specs.Skipping.{FeedBits}
use Rattle.lasso_input.proofs.Skipped.{Passing}
use Rattle.lasso_input.proofs.skipping.skip_lines.Given as goal

-- the line feeds before this block are passed
abbrev pub invariant-loop-block : goal.invariant-loop-block
invariant-loop-block l = record {
  few : l.count < l.most;
  low : l.end ≤ l.block * 32;
  passing : Passing l.bytes l.count l.end (l.block * 32);
}

-- and those of this one whose bits are not set any more
abbrev pub invariant-loop-bits : goal.invariant-loop-bits
invariant-loop-bits l = record {
  few : l.count < l.most;
  room : l.at + 32 ≤ length l.bytes;
  low : l.end ≤ l.at + 32;
  passing : Passing l.bytes l.count l.end l.at;
  bits : FeedBits l.bytes l.at l.end l.bits;
}

abbrev pub decreases-loop-bits : goal.decreases-loop-bits
decreases-loop-bits l = l.bits
