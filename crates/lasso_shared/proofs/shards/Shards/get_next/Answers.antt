use Rattle.lasso_shared.proofs.Called.{got}
use Rattle.lasso_shared.proofs.Whole.{since_both}
use Rattle.lasso_shared.proofs.shards.Shards.get_next.Goals as goal

pub returns-clause-call : goal.returns-clause-call
returns-clause-call g c =
    let p = c.args.pass.now.number in
    let before = c.args.pass.now.notes in
    let after = c.get_under_read_lock.new.pass.notes in
    let since = since_both p c.key_by_guess.new.pass.number before c.key_by_guess.new.pass.notes after c.key_by_guess.ensures.same.0 c.key_by_guess.ensures.since c.get_under_read_lock.ensures.since in
    got g.K.Key.key_at c.args.self.now.log.opening p before after c.args.text.now c.get_under_read_lock.result since c.get_under_read_lock.ensures.found
