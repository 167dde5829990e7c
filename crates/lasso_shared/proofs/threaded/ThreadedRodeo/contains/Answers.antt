use Rattle.lasso_shared.proofs.Called.{told_whether}
use Rattle.lasso_shared.proofs.threaded.ThreadedRodeo.contains.Goals as goal

pub returns-clause-call : goal.returns-clause-call
returns-clause-call g c =
    rw c.is_some.ensures (told_whether g.K.Key.key_at c.args.self.now.opening c.args.text.now c.get.result c.get.ensures.opening c.get.ensures.call)
