use Rattle.std.proofs.Common.{ℕ, subst}
use Rattle.lasso_log.specs.Replies.{Interned}
use Rattle.lasso_log.specs.Calls.{IsCall}
use Rattle.lasso_log.specs.Views.{seen}
use Rattle.lasso_shared.specs.NewTexts.{intern_of}
use Rattle.lasso_shared.proofs.Called.{called_later}
use Rattle.lasso_shared.proofs.shards.Shards.intern.Goals as goal

pub returns-clause-call : goal.returns-clause-call
returns-clause-call g c =
    let p = c.args.pass.now.number in
    let o = c.args.self.now.log.opening in
    let q = intern_of c.args.text in
    let after = seen c.intern_new.new.pass in
    let r = c.intern_new.result in
    let call : IsCall g.K.Key.key_at o (seen c.key_by_hint_or_read_lock.new.pass) after p q (Interned r) =
    subst (λ (n : ℕ). IsCall g.K.Key.key_at o (seen c.key_by_hint_or_read_lock.new.pass) after n q (Interned r)) c.key_by_hint_or_read_lock.ensures.same.0 c.intern_new.ensures.call in
    called_later g.K.Key.key_at o p c.args.pass.now.notes c.key_by_hint_or_read_lock.new.pass.notes after q (Interned r) c.key_by_hint_or_read_lock.ensures.since call
