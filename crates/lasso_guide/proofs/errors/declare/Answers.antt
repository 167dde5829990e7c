-- After `?` the reply is the key that it left, under `Ok`.
use Rattle.std.proofs.Common.{Ok}
use Rattle.lasso.proofs.Calling.{answer_resolves}
use Rattle.lasso_guide.proofs.errors.declare.Goals as goal

pub returns-clause-named : goal.returns-clause-named
returns-clause-named g c =
    answer_resolves g.K.Key.key_at g.K.Key.number (λ n k e. (g.met.K.Key.made n k e).2) _ _ c.args.name.now (Ok c.in_ok-key.key) c.in_ok-key.ensures.all
