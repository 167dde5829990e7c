use Rattle.lasso_shared.proofs.Called.{plain}
use Rattle.lasso_shared.proofs.threaded.ThreadedRodeo.into_reader.Goals as goal

pub returns-clause-call : goal.returns-clause-call
returns-clause-call g c =
    let pass = c.pass-pass.result in
    let called = c.into_reader_as.ensures in
    plain g.K.Key.key_at c.args.self.opening pass.number pass.notes c.into_reader_as.new.pass.notes _ _ c.pass-pass.ensures.notes called.call called.legal
