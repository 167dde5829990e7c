use Rattle.lasso_single.proofs.Wholes.{whole_empty}
use Rattle.lasso_single.proofs.rodeo.Rodeo.clear.Goals as goal

pub invariant_of-self : goal.invariant_of-self
invariant_of-self g c = whole_empty _ g.K.Key.key_at c.clear.new.self.texts c.clear-2.new.self c.clear.ensures.texts c.clear-2.ensures.empty
