use Rattle.std.proofs.Common.{ℕ, ◌≡◌, ◌∙◌, List, Err, Some, sym, subst}
use Rattle.lasso_columns.specs.Rows.{word_of}
use Rattle.lasso_codes.specs.Requests.{RequestEnd}
use Rattle.lasso_codes.specs.Streams.{Writes}
use Rattle.lasso_codes.specs.declared.error.RunError.{RunError}
use Rattle.lasso_codes.proofs.Failing.{fails_writing, reads_end, writes_end, gone_end}
use Rattle.lasso_codes.proofs.Verbs.{verb_then}
use Rattle.lasso_codes.proofs.Written.{writes_kept}
use Rattle.lasso_codes.proofs.program.run_request.Goals as goal

pub returns-in-Run-clause-report : goal.returns-in-Run-clause-report
returns-in-Run-clause-report g c = λ verb settings asked bytes e.
    let run = c.run_verb-ended in
    let last = c.end_flushed in
    let null = word_of c.args.request.now.null in
    writes_kept _ _ _ _ _ (run.ensures.report bytes e) last.ensures.kept (λ part end.
    subst (λ command. RequestEnd command null bytes run.new.input.left part last.result) (sym c.in-Run.is ∙ asked) (verb_then c.in-Run.verb c.in-Run.settings null bytes run.new.input.left part run.result last.result end last.ensures.ends))

pub returns-in-Run-clause-reads : goal.returns-in-Run-clause-reads
returns-in-Run-clause-reads g c =
    let run = c.run_verb-ended in
    reads_end _ _ run.result c.end_flushed.result run.ensures.reads c.end_flushed.ensures.ends c.end_flushed.ensures.kept_error

pub returns-in-Run-clause-writes : goal.returns-in-Run-clause-writes
returns-in-Run-clause-writes g c =
    let run = c.run_verb-ended in
    let last = c.end_flushed in
    writes_end c.args.output.now run.new.output last.new.output run.result last.result last.ensures.no_flush run.ensures.writes last.ensures.writes

pub returns-in-Run-clause-gone : goal.returns-in-Run-clause-gone
returns-in-Run-clause-gone g c =
    let run = c.run_verb-ended in
    let last = c.end_flushed in
    gone_end c.args.output.now run.new.output last.new.output run.result last.result last.ensures.no_flush run.ensures.gone last.ensures.gone

pub returns-in-Run-clause-write_failed : goal.returns-in-Run-clause-write_failed
returns-in-Run-clause-write_failed g c = λ failed.
    let run = c.run_verb-ended in
    let last = c.end_flushed in
    let null = word_of c.args.request.now.null in
    let before = c.args.output.now.written in
    let ends : RunError → Type 0 = λ error. (bytes : List ℕ) → c.args.input.now.left ≡ Some bytes → Writes before last.new.output.written (λ part. RequestEnd c.args.request.now.command null bytes run.new.input.left part (Err error)) in
    fails_writing c.args.input.now run.new.input c.args.output.now run.new.output last.new.output last.result ends failed run.result last.ensures.no_flush run.ensures.reads run.ensures.gone last.ensures.gone_alone last.ensures.gone_most (λ error is bytes e.
    writes_kept _ _ _ _ _ (run.ensures.report bytes e) last.ensures.kept (λ part end.
    subst (λ r. RequestEnd c.args.request.now.command null bytes run.new.input.left part r) is (subst (λ command. RequestEnd command null bytes run.new.input.left part run.result) (sym c.in-Run.is) end)))
