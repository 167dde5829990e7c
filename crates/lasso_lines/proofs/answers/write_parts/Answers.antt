use Rattle.std.proofs.Common.{◌∷◌, [], ◌++◌, Err}
use Rattle.std.proofs.lemmas.Result.{err_from_is_err_and}
use Rattle.lasso_lines.proofs.FailedCalls.{then_failed}
use Rattle.lasso_lines.proofs.Known.{front_then, front_fails, only_grows_then}
use Rattle.lasso_lines.proofs.answers.write_parts.Goals as goal

-- the front could not be written
pub returns-in_err-write_all-clause-bytes : goal.returns-in_err-write_all-clause-bytes
returns-in_err-write_all-clause-bytes g c =
    let p = err_from_is_err_and c.from_residual.result c.from_residual.ensures.1 in
    rw (p.1, p.2) (front_fails _ _ c.args.front.now (c.args.line.now ++ 10 ∷ []) _ c.in_err-write_all.ensures.bytes)

pub returns-in_err-write_all-clause-failures : goal.returns-in_err-write_all-clause-failures
returns-in_err-write_all-clause-failures g c =
    let p = err_from_is_err_and c.from_residual.result c.from_residual.ensures.1 in
    rw (p.1, p.2) c.in_err-write_all.ensures.failures

pub returns-in_err-write_all-clause-delivered : goal.returns-in_err-write_all-clause-delivered
returns-in_err-write_all-clause-delivered g c = c.write_all.ensures.delivered

pub returns-in_err-write_all-clause-faults : goal.returns-in_err-write_all-clause-faults
returns-in_err-write_all-clause-faults g c =
    let p = err_from_is_err_and c.from_residual.result c.from_residual.ensures.1 in
    rw (p.1, p.2) c.in_err-write_all.ensures.faults

-- the line could not be written
pub returns-in_err-write_all-2-clause-bytes : goal.returns-in_err-write_all-2-clause-bytes
returns-in_err-write_all-2-clause-bytes g c =
    let p = err_from_is_err_and c.from_residual-in_err-write_all-2.result c.from_residual-in_err-write_all-2.ensures.1 in
    rw (p.1, p.2) (front_then _ _ _ c.args.front.now (c.args.line.now ++ 10 ∷ []) (Err c.in_err-write_all-2.field-0.0) c.in_ok-write_all.ensures.bytes
    (front_fails _ _ c.args.line.now (10 ∷ []) _ c.in_err-write_all-2.ensures.bytes))

pub returns-in_err-write_all-2-clause-failures : goal.returns-in_err-write_all-2-clause-failures
returns-in_err-write_all-2-clause-failures g c =
    let p = err_from_is_err_and c.from_residual-in_err-write_all-2.result c.from_residual-in_err-write_all-2.ensures.1 in
    rw (p.1, p.2) (then_failed _ _ _ _ c.in_ok-write_all.ensures.failures c.in_err-write_all-2.ensures.failures)

pub returns-in_err-write_all-2-clause-delivered : goal.returns-in_err-write_all-2-clause-delivered
returns-in_err-write_all-2-clause-delivered g c = only_grows_then _ _ _ c.write_all.ensures.delivered c.write_all-2.ensures.delivered

pub returns-in_err-write_all-2-clause-faults : goal.returns-in_err-write_all-2-clause-faults
returns-in_err-write_all-2-clause-faults g c =
    let p = err_from_is_err_and c.from_residual-in_err-write_all-2.result c.from_residual-in_err-write_all-2.ensures.1 in
    rw (p.1, p.2) c.in_err-write_all-2.ensures.faults

-- the line feed is the last to be written
pub returns-clause-bytes : goal.returns-clause-bytes
returns-clause-bytes g c =
    front_then _ _ _ c.args.front.now (c.args.line.now ++ 10 ∷ []) _ c.in_ok-write_all.ensures.bytes
    (front_then _ _ _ c.args.line.now (10 ∷ []) _ c.in_ok-write_all-2.ensures.bytes c.write_all-3.ensures.bytes)

pub returns-clause-failures : goal.returns-clause-failures
returns-clause-failures g c =
    then_failed _ _ _ _ (then_failed _ _ _ _ c.in_ok-write_all.ensures.failures c.in_ok-write_all-2.ensures.failures) c.write_all-3.ensures.failures

pub returns-clause-delivered : goal.returns-clause-delivered
returns-clause-delivered g c =
    only_grows_then _ _ _ (only_grows_then _ _ _ c.write_all.ensures.delivered c.write_all-2.ensures.delivered) c.write_all-3.ensures.delivered

pub returns-clause-faults : goal.returns-clause-faults
returns-clause-faults g c = c.write_all-3.ensures.faults
