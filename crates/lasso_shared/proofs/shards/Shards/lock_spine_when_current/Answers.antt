use Rattle.std.proofs.Common.{◌∙◌}
use Rattle.lasso_shared.proofs.Whole.{since_both}
use Rattle.lasso_shared.proofs.shards.Shards.lock_spine_when_current.Goals as goal

pub returns-then-is_current-clause-since : goal.returns-then-is_current-clause-since
returns-then-is_current-clause-since g c =
    let i = c.loop.invariant in
    since_both c.args.pass.now.number c.loop.pass.number c.args.pass.now.notes c.loop.pass.notes c.is_current.new.pass.notes i.2.0 i.3 c.is_current.ensures.since

pub loop-preserved : goal.loop-preserved
loop-preserved g c =
    let i = c.loop.invariant in
    let w = c.is_current.ensures in
    (tt, tt, (w.same.0 ∙ i.2.0, w.same.1 ∙ i.2.1), since_both c.args.pass.now.number c.loop.pass.number c.args.pass.now.notes c.loop.pass.notes c.is_current.new.pass.notes i.2.0 i.3 w.since, w.begins)
