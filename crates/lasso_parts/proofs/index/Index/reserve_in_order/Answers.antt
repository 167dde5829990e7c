use Rattle.std.proofs.Common.{◌∙◌, ap}
use Rattle.lasso_parts.specs.Index.{grown_count}
use Rattle.lasso_parts.proofs.IndexTables.{next_table, next_room, next_index}
use Rattle.lasso_parts.proofs.index.Index.reserve_in_order.Goals as goal

pub invariant_of-self : goal.invariant_of-self
invariant_of-self g c = let e = c.in_ok-slots.ensures in next_table _ c.in_ok-slots.slots _ _ _ c.self.invariant c.self.view_is (c.in-Some.ensures.value ∙ ap grown_count c.len.ensures) e.len e.refilled.counted

pub returns-clause-room : goal.returns-clause-room
returns-clause-room g c = let e = c.in_ok-slots.ensures in next_room _ c.in_ok-slots.slots _ _ _ c.self.invariant c.self.view_is (c.in-Some.ensures.value ∙ ap grown_count c.len.ensures) e.len e.refilled.counted

pub returns-clause-whole : goal.returns-clause-whole
returns-clause-whole g c = next_index _ _ _ _ _ _ c.self.view_is c.self.invariant c.requires.whole c.in_ok-slots.ensures.refilled
