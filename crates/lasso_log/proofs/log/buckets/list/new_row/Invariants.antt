use Rattle.std.proofs.Common.{◌≤◌}
use Rattle.std.specs.Prelude.{vec_capacity}
use Rattle.lasso_log.specs.BucketRows.{AreTagged}
use Rattle.lasso_log.proofs.log.buckets.list.new_row.Given as goal

-- the cells so far have the tag
abbrev pub invariant-loop : goal.invariant-loop
invariant-loop g l = (l.counter ≤ l.cells) × (l.cells ≤ vec_capacity l.row) × AreTagged l.tag.numbers l.counter l.row.items
