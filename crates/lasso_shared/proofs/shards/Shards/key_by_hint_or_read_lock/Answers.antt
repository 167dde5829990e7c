use Rattle.lasso_shared.proofs.Whole.{since_both}
use Rattle.lasso_shared.proofs.shards.Shards.key_by_hint_or_read_lock.Goals as goal

pub returns-clause-since : goal.returns-clause-since
returns-clause-since g c =
    let found = c.key_in_shard-found.ensures in
    since_both c.args.pass.now.number c.key_by_hint.new.pass.number c.args.pass.now.notes c.key_by_hint.new.pass.notes c.key_in_shard-found.new.pass.notes c.key_by_hint.ensures.same.0 c.key_by_hint.ensures.since found.since
