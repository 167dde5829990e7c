use Rattle.lasso_shared.proofs.Whole.{since_both}
use Rattle.lasso_shared.proofs.shards.Shards.make_room.Goals as goal

pub returns-in-Err-clause-since : goal.returns-in-Err-clause-since
returns-in-Err-clause-since g c =
    since_both c.args.pass.now.number c.grow.new.pass.number c.args.pass.now.notes c.grow.new.pass.notes c.wait_until_current.new.pass.notes c.grow.ensures.same.0 c.grow.ensures.since c.wait_until_current.ensures.since
