use Rattle.std.proofs.Common.{◌≡◌, ◌≤◌, map, length, take}
use Rattle.lasso_parts.specs.Bucket.{block_of}
use Rattle.lasso_parts.proofs.arena.owned.free_from.Given as goal

abbrev pub invariant-loop-regions : goal.invariant-loop-regions
invariant-loop-regions g l = record {
  joined : l.rights.items ≡ map block_of l.regions.items;
  count : l.kept ≤ length l.regions.items;
  kept : take l.kept l.regions.items ≡ take l.kept l.initial.regions.items;
}

abbrev pub decreases-loop-regions : goal.decreases-loop-regions
decreases-loop-regions g l = length l.regions.items
