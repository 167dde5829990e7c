use Rattle.std.proofs.Common.{subst, arith}
use Rattle.lasso_parts.specs.Index.{Table, StaysFiled}
use Rattle.lasso_parts.proofs.IndexSlots.{entered_in, IsTable-entered, room-entered, used_fits}
use Rattle.lasso_parts.proofs.index.Index.insert_at.Goals as goal

pub overflow_add-self : goal.overflow_add-self
overflow_add-self g c = let e = c.enter_at.ensures in let h = used_fits _ _ _ c.self.view_is _ e.entered _ c.self.invariant e.small in omega (arith, h)

pub invariant_of-self : goal.invariant_of-self
invariant_of-self g c = IsTable-entered _ _ _ c.self.view_is _ c.enter_at.ensures.entered _ c.self.invariant c.requires.room

pub returns-clause-holds : goal.returns-clause-holds
returns-clause-holds g c = (entered_in _ _ _ c.self.view_is _ c.enter_at.ensures.entered).holds

pub returns-clause-used : goal.returns-clause-used
returns-clause-used g c = (entered_in _ _ _ c.self.view_is _ c.enter_at.ensures.entered).more

pub returns-clause-slots : goal.returns-clause-slots
returns-clause-slots g c = (entered_in _ _ _ c.self.view_is _ c.enter_at.ensures.entered).len

pub returns-clause-room : goal.returns-clause-room
returns-clause-room g c = room-entered _ _ _ c.self.view_is _ c.enter_at.ensures.entered c.requires.room

pub returns-clause-filed : goal.returns-clause-filed
returns-clause-filed g c = subst (λ (t : Table). StaysFiled c.args.hash (g.K.Key.number c.args.key) t c.enter_at.new.slots) c.self.view_is c.enter_at.ensures.filed
