use Rattle.lasso_shared.proofs.threaded.ThreadedRodeo.into_resolver.Goals as goal

pub returns-in-Ok-clause-call : goal.returns-in-Ok-clause-call
returns-in-Ok-clause-call g c = rw c.into_resolver.ensures c.in-Ok.ensures.call
