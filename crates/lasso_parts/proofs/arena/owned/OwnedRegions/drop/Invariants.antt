use Rattle.std.proofs.Common.{◌≡◌, length, map}
use Rattle.lasso_parts.specs.Bucket.{block_of}
use Rattle.lasso_parts.proofs.arena.owned.OwnedRegions.drop.Given as goal

-- each region that is left has its right
abbrev pub invariant-loop-region : goal.invariant-loop-region
invariant-loop-region g l = l.rights.items ≡ map block_of l.regions.items

abbrev pub decreases-loop-region : goal.decreases-loop-region
decreases-loop-region g l = length l.regions.items
