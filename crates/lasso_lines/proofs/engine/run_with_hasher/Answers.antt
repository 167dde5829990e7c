use Rattle.std.proofs.lemmas.Result.{err_from_is_err_and}
use Rattle.lasso_lines.proofs.Known.{grows_stays, only_grows_then}
use Rattle.lasso_lines.proofs.Ways.{ends_unflushed}
use Rattle.lasso_lines.proofs.engine.run_with_hasher.Goals as goal

pub returns-in_err-flush_all-clause-report : goal.returns-in_err-flush_all-clause-report
returns-in_err-flush_all-clause-report g c = λ input e.
    let p = err_from_is_err_and c.from_residual.result c.from_residual.ensures.1 in
    rw (p.1, p.2, c.in_err-flush_all.ensures.faults) (grows_stays _ _ _ _ _ (c.answer_input-result.ensures.report input e) c.flush_all.ensures.written (λ part ends. ends_unflushed input c.args.limits part c.answer_input-result.result ends))

pub returns-clause-report : goal.returns-clause-report
returns-clause-report g c = λ input e.
    grows_stays _ _ _ _ _ (c.answer_input-result.ensures.report input e) c.flush_all.ensures.written (λ part ends. ends)

pub returns-in_err-flush_all-clause-delivered : goal.returns-in_err-flush_all-clause-delivered
returns-in_err-flush_all-clause-delivered g c = only_grows_then _ _ _ c.answer_input-result.ensures.delivered c.flush_all.ensures.delivered

pub returns-clause-delivered : goal.returns-clause-delivered
returns-clause-delivered g c = only_grows_then _ _ _ c.answer_input-result.ensures.delivered c.flush_all.ensures.delivered

pub returns-clause-whole : goal.returns-clause-whole
returns-clause-whole g c = c.answer_input-result.ensures.whole

pub returns-clause-reads : goal.returns-clause-reads
returns-clause-reads g c = c.answer_input-result.ensures.reads

pub returns-clause-no_usage : goal.returns-clause-no_usage
returns-clause-no_usage g c = c.answer_input-result.ensures.no_usage

pub returns-clause-nothing_pending : goal.returns-clause-nothing_pending
returns-clause-nothing_pending g c = λ unless. c.in_ok-flush_all.ensures.all
