use Rattle.std.proofs.Common.{refl}
use Rattle.lasso_log.specs.Replies.{Copied, Intern, Interned}
use Rattle.lasso_log.specs.Views.{seen}
use Rattle.lasso_shared.proofs.Batched.{called_after}
use Rattle.lasso_shared.proofs.Whole.{since_both}
use Rattle.lasso_shared.proofs.shards.Shards.intern_next_at_once.Goals as goal

pub returns-in_default-intern_at_once-clause-none : goal.returns-in_default-intern_at_once-clause-none
returns-in_default-intern_at_once-clause-none g c =
    λ none. since_both c.args.pass.now.number c.key_by_guess.new.pass.number c.args.pass.now.notes c.key_by_guess.new.pass.notes c.intern_at_once.new.pass.notes c.key_by_guess.ensures.same.0 c.key_by_guess.ensures.since (c.in_default-intern_at_once.ensures.none refl)

pub returns-clause-call : goal.returns-clause-call
returns-clause-call g c =
    called_after g.K.Key.key_at c.args.self.now.log.opening c.args.pass.now c.key_by_guess.new.pass (seen c.intern_at_once.new.pass) (Intern Copied c.args.text.now) (Interned c.in-Some-intern_at_once.reply) c.key_by_guess.ensures.same c.key_by_guess.ensures.since c.in-Some-intern_at_once.ensures.call
