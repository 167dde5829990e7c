use Rattle.lasso_shared.proofs.Whole.{since_both}
use Rattle.lasso_shared.proofs.shards.Shards.cells_ahead.Goals as goal

pub returns-clause-since : goal.returns-clause-since
returns-clause-since g c =
    since_both c.args.pass.now.number c.find_ahead.new.pass.number c.args.pass.now.notes c.find_ahead.new.pass.notes c.make_ahead-made.new.pass.notes c.find_ahead.ensures.same.0 c.find_ahead.ensures.since c.make_ahead-made.ensures.since
