use Rattle.lasso_parts.proofs.KeySlots.{slots_of-zeros}
use Rattle.lasso_parts.proofs.index.key_slots.KeySlots.empty.Goals as goal

pub returns : goal.returns
returns g c = slots_of-zeros g.K.Key.number _ _ _ c.in_ok-fingerprints.ensures
