use Rattle.lasso_shared.proofs.Called.{serialized}
use Rattle.lasso_shared.proofs.threaded.ThreadedRodeo.serialize_as.Goals as goal

pub returns-clause-call : goal.returns-clause-call
returns-clause-call g c =
    serialized g.K.Key.key_at c.args.self.now.opening c.args.pass.now.number c.args.pass.now.notes c.len-len.new.pass.notes c.write_map.result c.len-len.ensures.since
