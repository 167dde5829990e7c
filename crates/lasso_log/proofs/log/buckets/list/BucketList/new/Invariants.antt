use Rattle.std.proofs.Common.{◌≤◌}
use Rattle.std.specs.Prelude.{vec_capacity}
use Rattle.lasso_log.specs.BucketRows.{AreRows}
use Rattle.lasso_log.proofs.log.buckets.list.BucketList.new.Given as goal

-- the rows' cells so far are tagged with their numbers
abbrev pub invariant-loop-number : goal.invariant-loop-number
invariant-loop-number g l = (l.number ≤ 60) × (60 ≤ vec_capacity l.rows) × AreRows l.tag.numbers l.number l.rows.items
