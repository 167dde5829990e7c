use Rattle.lasso_parts.proofs.IndexSlots.{entered, StaysFiled-entered}
use Rattle.lasso_parts.proofs.index.table.enter_at.Goals as goal

pub returns-clause-entered : goal.returns-clause-entered
returns-clause-entered g c = let f = c.requires in entered _ _ _ _ _ f.inside f.free c.put.ensures.slots c.put.ensures.fingerprints

pub returns-clause-filed : goal.returns-clause-filed
returns-clause-filed g c = let f = c.requires in StaysFiled-entered _ _ _ _ _ f.inside f.free c.put.ensures.slots c.put.ensures.fingerprints _ c.fingerprint_of.ensures.value f.reached
