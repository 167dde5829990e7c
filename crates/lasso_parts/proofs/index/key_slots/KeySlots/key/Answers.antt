use Rattle.std.proofs.Common.{arith}
use Rattle.lasso_parts.proofs.KeySlots.{keys_len, keys_read, has_key, tells_key}
use Rattle.lasso_parts.proofs.index.key_slots.KeySlots.key.Goals as goal

pub index-requires : goal.index-requires
index-requires g c =
    let l = has_key g.K.Key.number _ _ _ c.self.invariant _ c.self.view_is _ c.requires in
    let e = keys_len c.self.inside.keys c.in-Some.keys c.in-Some.is in
    omega (arith, c.in-Some.keys.ok.0, l)

pub returns : goal.returns
returns g c = tells_key g.K.Key.number _ _ _ c.self.invariant _ c.self.view_is _ c.requires _ (keys_read c.self.inside.keys c.in-Some.keys _ _ c.in-Some.is c.index.ensures)
