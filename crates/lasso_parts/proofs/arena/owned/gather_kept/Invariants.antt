use Rattle.std.proofs.Common.{◌≡◌, ◌≤◌, map, length}
use Rattle.lasso_parts.specs.Bucket.{block_of}
use Rattle.lasso_parts.specs.Doubled.{kept_of}
use Rattle.lasso_parts.proofs.Gathered.{gathered}
use Rattle.lasso_parts.proofs.arena.owned.gather_kept.Given as goal

abbrev pub invariant-loop-at : goal.invariant-loop-at
invariant-loop-at g l = record {
  joined : l.rights.items ≡ map block_of l.regions.items;
  count : l.kept ≤ l.at;
  same : length l.regions.items ≡ length l.initial.regions.items;
  kept : gathered l.regions.items l.kept l.last l.at ≡ kept_of l.initial.regions.items;
}
