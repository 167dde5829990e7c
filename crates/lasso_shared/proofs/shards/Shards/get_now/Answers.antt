use Rattle.lasso_shared.proofs.Now.{got_if}
use Rattle.lasso_shared.proofs.Whole.{since_both}
use Rattle.lasso_shared.proofs.shards.Shards.get_now.Goals as goal

pub returns-clause-call : goal.returns-clause-call
returns-clause-call g c =
    let found = c.get_under_read_lock_now.ensures in
    let since = since_both c.args.pass.now.number c.key_by_hint.new.pass.number c.args.pass.now.notes c.key_by_hint.new.pass.notes c.get_under_read_lock_now.new.pass.notes c.key_by_hint.ensures.same.0 c.key_by_hint.ensures.since found.since in
    got_if g.K.Key.key_at c.args.self.now.log c.args.pass.now.number c.args.pass.now.notes c.get_under_read_lock_now.new.pass.notes c.args.text.now c.get_under_read_lock_now.result since found.found

pub returns-clause-busy : goal.returns-clause-busy
returns-clause-busy g c = λ none. since_both c.args.pass.now.number c.key_by_hint.new.pass.number c.args.pass.now.notes c.key_by_hint.new.pass.notes c.get_under_read_lock_now.new.pass.notes c.key_by_hint.ensures.same.0 c.key_by_hint.ensures.since c.get_under_read_lock_now.ensures.since
