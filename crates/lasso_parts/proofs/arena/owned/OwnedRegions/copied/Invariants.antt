use Rattle.std.proofs.Common.{◌≡◌, ◌≤◌, take}
use Rattle.lasso_parts.specs.Arena.{copied_in, usage_of}
use Rattle.lasso_parts.proofs.arena.owned.OwnedRegions.copied.Given as goal

-- the bytes of the regions so far, no more than their capacities
abbrev pub invariant-loop-region : goal.invariant-loop-region
invariant-loop-region g l = record {
  sum : l.copied ≡ copied_in (take l.region-index l.region-items);
  within : l.copied ≤ usage_of (take l.region-index l.region-items);
}
