use Rattle.lasso_parts.proofs.Regions.{emptied_more}
use Rattle.lasso_parts.proofs.arena.owned.clear_each.Goals as goal

pub loop-region-preserved : goal.loop-region-preserved
loop-region-preserved g c = emptied_more _ _ _ c.region-item.result _ c.loop-region-test.true c.loop-region.invariant c.clear.ensures
