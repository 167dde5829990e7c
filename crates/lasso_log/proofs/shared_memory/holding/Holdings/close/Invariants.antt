use Rattle.std.proofs.Common.{All, length}
use Rattle.lasso_log.specs.SharedBuckets.{IsOfEra}
use Rattle.lasso_log.proofs.shared_memory.holding.Holdings.close.Given as goal

-- the buckets that are left are of the era
abbrev pub invariant-loop-holding : goal.invariant-loop-holding
invariant-loop-holding l = All (IsOfEra l.fn.ended.id) l.list.items

abbrev pub decreases-loop-holding : goal.decreases-loop-holding
decreases-loop-holding l = length l.list.items
