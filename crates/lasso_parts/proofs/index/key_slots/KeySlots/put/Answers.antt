use Rattle.std.proofs.Common.{[], arith}
use Rattle.lasso_parts.proofs.KeySlots.{keys_same, count_is, put_slots, put_fingerprints}
use Rattle.lasso_parts.proofs.index.key_slots.KeySlots.put.Goals as goal

pub index_mut-requires : goal.index_mut-requires
index_mut-requires g c =
    let l = count_is g.K.Key.number _ _ _ c.self.invariant _ c.self.view_is in
    omega (arith, c.make_keys.new.keys.ok.0, c.make_keys.ensures.len, c.len.ensures, l, c.requires.inside)

pub index_mut-requires-2 : goal.index_mut-requires-2
index_mut-requires-2 g c =
    let l = count_is g.K.Key.number _ _ _ c.self.invariant _ c.self.view_is in
    omega (arith, c.self.inside.fingerprints.ok.0, l, c.requires.inside)

pub returns-clause-slots : goal.returns-clause-slots
returns-clause-slots g c = put_slots g.K.Key.number c.self.inside.fingerprints.items _ _ c.self.invariant _ c.self.view_is _ (omega (arith, c.make_keys.ensures.len, c.len.ensures, c.self.inside.fingerprints.ok.0)) (keys_same c.self.inside.keys c.in-Some.keys _ c.in-Some.is c.make_keys.ensures.same) _ _ _ c.requires.inside c.requires.filled

pub returns-clause-small : goal.returns-clause-small
returns-clause-small g c = let l = count_is g.K.Key.number _ _ _ c.self.invariant _ c.self.view_is in omega (arith, c.self.inside.fingerprints.ok.0, c.self.inside.fingerprints.small, l)

pub returns-clause-fingerprints : goal.returns-clause-fingerprints
returns-clause-fingerprints g c = put_fingerprints g.K.Key.number _ _ _ c.self.invariant _ c.self.view_is [] _ _ c.requires.inside
