use Rattle.lasso_single.proofs.Wholes.{whole_empty}
use Rattle.lasso_single.proofs.rodeo.Rodeo.with_capacity_memory_limits_and_hasher.Goals as goal

pub invariant_of-result : goal.invariant_of-result
invariant_of-result g c = whole_empty _ g.K.Key.key_at c.in_ok-list.list.texts c.in_ok-index.index c.in_ok-list.ensures.texts c.in_ok-index.ensures.empty
