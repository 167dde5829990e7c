use Rattle.std.proofs.Common.{length, ap, ◌∙◌}
use Rattle.lasso_parts.proofs.KeySlots.{count_is, tells_empty, tells_filled}
use Rattle.lasso_parts.proofs.index.key_slots.KeySlots.fingerprints.Goals as goal

pub returns-clause-len : goal.returns-clause-len
returns-clause-len g c = ap length c.as_slice.ensures.value ∙ count_is g.K.Key.number _ _ _ c.self.invariant _ c.self.view_is

pub returns-clause-empty : goal.returns-clause-empty
returns-clause-empty g c = tells_empty g.K.Key.number _ _ _ c.self.invariant _ c.self.view_is

pub returns-clause-filled : goal.returns-clause-filled
returns-clause-filled g c = tells_filled g.K.Key.number _ _ _ c.self.invariant _ c.self.view_is
