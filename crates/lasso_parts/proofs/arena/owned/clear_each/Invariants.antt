use Rattle.std.proofs.Common.{◌≡◌}
use Rattle.lasso_parts.proofs.Regions.{emptied_to}
use Rattle.lasso_parts.proofs.arena.owned.clear_each.Given as goal

-- the regions before the index are emptied
abbrev pub invariant-loop-region : goal.invariant-loop-region
invariant-loop-region g l = l.region-items ≡ emptied_to l.region-index l.initial.region-items
