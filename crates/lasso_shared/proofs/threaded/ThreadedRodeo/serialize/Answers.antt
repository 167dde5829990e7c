use Rattle.lasso_log.specs.Notes.{state}
use Rattle.lasso_shared.proofs.Called.{plain}
use Rattle.lasso_shared.proofs.threaded.ThreadedRodeo.serialize.Goals as goal

pub returns-clause-call : goal.returns-clause-call
returns-clause-call g c =
    let pass = c.pass-pass.result in
    let called = c.serialize_as.ensures in
    let o = c.args.self.now.opening in (
      (state o c.serialize_as.new.pass.notes).texts,
      plain g.K.Key.key_at o pass.number pass.notes c.serialize_as.new.pass.notes _ _ c.pass-pass.ensures.notes called.call called.legal,
      called.written,
      called.refused,
    )
