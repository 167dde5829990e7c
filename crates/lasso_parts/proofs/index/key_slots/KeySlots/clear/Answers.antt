use Rattle.std.proofs.Common.{None, replicate, ap, ◌∙◌, arith}
use Rattle.lasso_parts.proofs.KeySlots.{slots_of-zeros, count_is}
use Rattle.lasso_parts.proofs.index.key_slots.KeySlots.clear.Goals as goal

pub returns : goal.returns
returns g c = slots_of-zeros g.K.Key.number _ _ _ (c.fill.ensures.items (λ y h. h)) ∙ ap (λ n. replicate n None) (let e = count_is g.K.Key.number _ _ _ c.self.invariant _ c.self.view_is in omega (arith, c.self.inside.fingerprints.ok.0))
