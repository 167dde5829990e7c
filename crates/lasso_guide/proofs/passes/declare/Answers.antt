-- What an intern call with a pass promises of the name, and of the texts that the pass had seen.
use Rattle.lasso.specs.Replies.{Copied}
use Rattle.lasso.proofs.CallingShared.{shared_answer_resolves, call_keeps_texts}
use Rattle.lasso_guide.proofs.passes.declare.Goals as goal

pub returns-clause-named : goal.returns-clause-named
returns-clause-named g c =
    shared_answer_resolves g.K.Key.key_at g.K.Key.number (λ n k e. (g.met.K.Key.made n k e).2) _ _ _ _ Copied c.args.name.now _ c.try_get_or_intern_as.ensures.call

pub returns-clause-kept : goal.returns-clause-kept
returns-clause-kept g c = call_keeps_texts g.K.Key.key_at _ _ _ _ _ _ c.try_get_or_intern_as.ensures.call
