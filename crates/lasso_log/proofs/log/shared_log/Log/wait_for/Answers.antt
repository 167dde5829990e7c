use Rattle.std.proofs.Common.{◌∙◌}
use Rattle.lasso_log.proofs.Reserved.{none_longer}
use Rattle.lasso_log.proofs.log.shared_log.Log.wait_for.Goals as goal

pub returns-then-is_at-clause-since : goal.returns-then-is_at-clause-since
returns-then-is_at-clause-since g c =
    let i = c.loop.invariant in
    none_longer c.args.pass.now.number c.loop.pass.number c.args.pass.now.notes c.loop.pass.notes c.is_at.new.pass.notes i.2.0 i.3 c.is_at.ensures.since

pub returns-then-is_at-clause-at : goal.returns-then-is_at-clause-at
returns-then-is_at-clause-at g c = rw (← c.spine.view_is) (rw c.if-is_at.true at c.is_at.ensures.at)

pub loop-preserved : goal.loop-preserved
loop-preserved g c =
    let i = c.loop.invariant in
    let same = c.is_at.ensures.same in
    (tt, tt, (same.0 ∙ i.2.0, same.1 ∙ i.2.1), none_longer c.args.pass.now.number c.loop.pass.number c.args.pass.now.notes c.loop.pass.notes c.is_at.new.pass.notes i.2.0 i.3 c.is_at.ensures.since)
