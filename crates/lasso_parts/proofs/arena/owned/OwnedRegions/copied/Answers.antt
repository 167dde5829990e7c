use Rattle.std.proofs.Common.{◌∙◌, arith, ap}
use Rattle.lasso_parts.specs.Arena.{usage_of}
use Rattle.lasso_parts.proofs.Gathered.{usage_fits}
use Rattle.lasso_parts.proofs.arena.owned.OwnedRegions.copied.Goals as goal

pub overflow_add-copied : goal.overflow_add-copied
overflow_add-copied g c =
    let fits = usage_fits _ c.loop-region.region-index c.region-item.result c.loop-region-test.true c.region-item.is in
    let all = ap usage_of (c.as_slice-region-items.ensures.value ∙ c.self.view_is) in
    omega (arith, fits, all, c.loop-region.invariant.within, c.capacity.ensures, c.requires)
