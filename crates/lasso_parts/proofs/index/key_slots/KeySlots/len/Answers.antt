use Rattle.std.proofs.Common.{arith}
use Rattle.lasso_parts.proofs.KeySlots.{count_is}
use Rattle.lasso_parts.proofs.index.key_slots.KeySlots.len.Goals as goal

pub returns : goal.returns
returns g c = let e = count_is g.K.Key.number _ _ _ c.self.invariant _ c.self.view_is in omega (arith, c.self.inside.fingerprints.ok.0)
