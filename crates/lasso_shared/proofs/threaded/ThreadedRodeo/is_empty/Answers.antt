use Rattle.lasso_shared.proofs.Called.{told_empty}
use Rattle.lasso_shared.proofs.threaded.ThreadedRodeo.is_empty.Goals as goal

pub returns-clause-call : goal.returns-clause-call
returns-clause-call g c = told_empty g.K.Key.key_at c.args.self.now.opening c.len.result c.len.ensures.call
