use Rattle.lasso_log.specs.Replies.{Copied, Intern, Interned}
use Rattle.lasso_log.specs.Views.{seen}
use Rattle.lasso_shared.proofs.Batched.{called_after}
use Rattle.lasso_shared.proofs.shards.Shards.intern_next.Goals as goal

pub returns-then-is_some-clause-call : goal.returns-then-is_some-clause-call
returns-then-is_some-clause-call g c =
    called_after g.K.Key.key_at c.args.self.now.log.opening c.args.pass.now c.key_by_guess.new.pass (seen c.intern-then-is_some.new.pass) (Intern Copied c.args.text.now) (Interned c.intern-then-is_some.result) c.key_by_guess.ensures.same c.key_by_guess.ensures.since c.intern-then-is_some.ensures.call

pub returns-clause-call : goal.returns-clause-call
returns-clause-call g c =
    called_after g.K.Key.key_at c.args.self.now.log.opening c.args.pass.now c.key_by_guess.new.pass (seen c.intern_new.new.pass) (Intern Copied c.args.text.now) (Interned c.intern_new.result) c.key_by_guess.ensures.same c.key_by_guess.ensures.since c.intern_new.ensures.call
