use Rattle.std.proofs.Common.{◌∙◌, sym, ap}
use Rattle.lasso_parts.specs.Index.{grown_count}
use Rattle.lasso_parts.proofs.IndexTables.{next_table, next_room, next_holds}
use Rattle.lasso_parts.proofs.index.Index.reserve_one.Goals as goal

pub invariant_of-self : goal.invariant_of-self
invariant_of-self g c = let e = c.in_ok-slots.ensures in next_table _ c.in_ok-slots.slots _ _ _ c.self.invariant c.self.view_is (c.in-Some.ensures.value ∙ ap grown_count c.len.ensures) e.len (e.refilled.counted ∙ sym c.self.invariant.counted)

pub returns-clause-room : goal.returns-clause-room
returns-clause-room g c = let e = c.in_ok-slots.ensures in next_room _ c.in_ok-slots.slots _ _ _ c.self.invariant c.self.view_is (c.in-Some.ensures.value ∙ ap grown_count c.len.ensures) e.len (e.refilled.counted ∙ sym c.self.invariant.counted)

pub returns-clause-same : goal.returns-clause-same
returns-clause-same g c = next_holds _ _ _ _ _ c.self.view_is c.in_ok-slots.ensures.refilled
