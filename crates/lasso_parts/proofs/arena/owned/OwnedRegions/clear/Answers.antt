use Rattle.std.proofs.Common.{◌∙◌, ap, sym, map}
use Rattle.lasso_parts.specs.Bucket.{block_of}
use Rattle.lasso_parts.proofs.Regions.{blocks_emptied}
use Rattle.lasso_parts.proofs.arena.owned.OwnedRegions.clear.Goals as goal

pub invariant_of-self : goal.invariant_of-self
invariant_of-self g c = c.free_from.ensures.joined ∙ sym (ap (map block_of) c.clear_each.ensures ∙ blocks_emptied c.free_from.new.regions.items)
