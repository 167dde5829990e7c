use Rattle.std.proofs.Common.{◌++◌, Err, codes, decimal}
use Rattle.std.proofs.lemmas.Result.{err_from_is_err_and}
use Rattle.lasso_lines.proofs.FailedCalls.{then_failed}
use Rattle.lasso_lines.proofs.Known.{front_then, front_fails, only_grows_then}
use Rattle.lasso_lines.proofs.answers.answer_counts.Goals as goal

-- the number of texts could not be written
pub returns-in_err-write_number-clause-bytes : goal.returns-in_err-write_number-clause-bytes
returns-in_err-write_number-clause-bytes g c =
    let p = err_from_is_err_and c.from_residual.result c.from_residual.ensures.1 in
    let usage = decimal c.args.rodeo.now.account.usage ++ codes " bytes\n" in
    rw (p.1, p.2, ← c.len.ensures.value) (front_fails _ _ (decimal c.len.result) (codes " texts, " ++ usage) _ c.in_err-write_number.ensures.bytes)

pub returns-in_err-write_number-clause-failures : goal.returns-in_err-write_number-clause-failures
returns-in_err-write_number-clause-failures g c =
    let p = err_from_is_err_and c.from_residual.result c.from_residual.ensures.1 in
    rw (p.1, p.2) c.in_err-write_number.ensures.failures

pub returns-in_err-write_number-clause-delivered : goal.returns-in_err-write_number-clause-delivered
returns-in_err-write_number-clause-delivered g c = c.write_number.ensures.delivered

pub returns-in_err-write_number-clause-faults : goal.returns-in_err-write_number-clause-faults
returns-in_err-write_number-clause-faults g c =
    let p = err_from_is_err_and c.from_residual.result c.from_residual.ensures.1 in
    rw (p.1, p.2) c.in_err-write_number.ensures.faults

-- the words after it could not be written
pub returns-in_err-write_all-clause-bytes : goal.returns-in_err-write_all-clause-bytes
returns-in_err-write_all-clause-bytes g c =
    let p = err_from_is_err_and c.from_residual-in_err-write_all.result c.from_residual-in_err-write_all.ensures.1 in
    let usage = decimal c.args.rodeo.now.account.usage ++ codes " bytes\n" in
    rw (p.1, p.2, ← c.len.ensures.value) (front_then _ _ _ (decimal c.len.result) (codes " texts, " ++ usage) (Err c.in_err-write_all.field-0.0) c.in_ok-write_number.ensures.bytes
    (front_fails _ _ (codes " texts, ") usage _ c.in_err-write_all.ensures.bytes))

pub returns-in_err-write_all-clause-failures : goal.returns-in_err-write_all-clause-failures
returns-in_err-write_all-clause-failures g c =
    let p = err_from_is_err_and c.from_residual-in_err-write_all.result c.from_residual-in_err-write_all.ensures.1 in
    rw (p.1, p.2) (then_failed _ _ _ _ c.in_ok-write_number.ensures.failures c.in_err-write_all.ensures.failures)

pub returns-in_err-write_all-clause-delivered : goal.returns-in_err-write_all-clause-delivered
returns-in_err-write_all-clause-delivered g c = only_grows_then _ _ _ c.write_number.ensures.delivered c.write_all.ensures.delivered

pub returns-in_err-write_all-clause-faults : goal.returns-in_err-write_all-clause-faults
returns-in_err-write_all-clause-faults g c =
    let p = err_from_is_err_and c.from_residual-in_err-write_all.result c.from_residual-in_err-write_all.ensures.1 in
    rw (p.1, p.2) c.in_err-write_all.ensures.faults

-- the number of bytes could not be written
pub returns-in_err-write_number-2-clause-bytes : goal.returns-in_err-write_number-2-clause-bytes
returns-in_err-write_number-2-clause-bytes g c =
    let p = err_from_is_err_and c.from_residual-in_err-write_number-2.result c.from_residual-in_err-write_number-2.ensures.1 in
    let usage = decimal c.current_memory_usage.result ++ codes " bytes\n" in
    rw (p.1, p.2, ← c.len.ensures.value, ← c.current_memory_usage.ensures.usage) (front_then _ _ _ (decimal c.len.result) (codes " texts, " ++ usage) (Err c.in_err-write_number-2.field-0.0) c.in_ok-write_number.ensures.bytes
    (front_then _ _ _ (codes " texts, ") usage (Err c.in_err-write_number-2.field-0.0) c.in_ok-write_all.ensures.bytes
    (front_fails _ _ (decimal c.current_memory_usage.result) (codes " bytes\n") _ c.in_err-write_number-2.ensures.bytes)))

pub returns-in_err-write_number-2-clause-failures : goal.returns-in_err-write_number-2-clause-failures
returns-in_err-write_number-2-clause-failures g c =
    let p = err_from_is_err_and c.from_residual-in_err-write_number-2.result c.from_residual-in_err-write_number-2.ensures.1 in
    let two = then_failed _ _ _ _ c.in_ok-write_number.ensures.failures c.in_ok-write_all.ensures.failures in
    rw (p.1, p.2) (then_failed _ _ _ _ two c.in_err-write_number-2.ensures.failures)

pub returns-in_err-write_number-2-clause-delivered : goal.returns-in_err-write_number-2-clause-delivered
returns-in_err-write_number-2-clause-delivered g c =
    let two = only_grows_then _ _ _ c.write_number.ensures.delivered c.write_all.ensures.delivered in
    only_grows_then _ _ _ two c.write_number-2.ensures.delivered

pub returns-in_err-write_number-2-clause-faults : goal.returns-in_err-write_number-2-clause-faults
returns-in_err-write_number-2-clause-faults g c =
    let p = err_from_is_err_and c.from_residual-in_err-write_number-2.result c.from_residual-in_err-write_number-2.ensures.1 in
    rw (p.1, p.2) c.in_err-write_number-2.ensures.faults

-- the last words end the report
pub returns-clause-bytes : goal.returns-clause-bytes
returns-clause-bytes g c =
    let usage = decimal c.current_memory_usage.result ++ codes " bytes\n" in
    rw (← c.len.ensures.value, ← c.current_memory_usage.ensures.usage) (front_then _ _ _ (decimal c.len.result) (codes " texts, " ++ usage) _ c.in_ok-write_number.ensures.bytes
    (front_then _ _ _ (codes " texts, ") usage _ c.in_ok-write_all.ensures.bytes
    (front_then _ _ _ (decimal c.current_memory_usage.result) (codes " bytes\n") _ c.in_ok-write_number-2.ensures.bytes c.write_all-2.ensures.bytes)))

pub returns-clause-failures : goal.returns-clause-failures
returns-clause-failures g c =
    let two = then_failed _ _ _ _ c.in_ok-write_number.ensures.failures c.in_ok-write_all.ensures.failures in
    then_failed _ _ _ _ (then_failed _ _ _ _ two c.in_ok-write_number-2.ensures.failures) c.write_all-2.ensures.failures

pub returns-clause-delivered : goal.returns-clause-delivered
returns-clause-delivered g c =
    let two = only_grows_then _ _ _ c.write_number.ensures.delivered c.write_all.ensures.delivered in
    only_grows_then _ _ _ (only_grows_then _ _ _ two c.write_number-2.ensures.delivered) c.write_all-2.ensures.delivered

pub returns-clause-faults : goal.returns-clause-faults
returns-clause-faults g c = c.write_all-2.ensures.faults
