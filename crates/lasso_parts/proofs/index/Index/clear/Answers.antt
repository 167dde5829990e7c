use Rattle.lasso_parts.proofs.IndexTables.{cleared}
use Rattle.lasso_parts.proofs.index.Index.clear.Goals as goal

pub invariant_of-self : goal.invariant_of-self
invariant_of-self g c = (cleared _ _ _ _ c.self.view_is c.clear.ensures c.self.invariant).0

pub returns-clause-room : goal.returns-clause-room
returns-clause-room g c = (cleared _ _ _ _ c.self.view_is c.clear.ensures c.self.invariant).1
