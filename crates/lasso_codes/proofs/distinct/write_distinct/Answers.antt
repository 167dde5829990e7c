use Rattle.std.proofs.Common.{◌≡◌, ◌∙◌, ◌+◌, ◌∷◌, ◌++◌, drop, sym, subst, Ok, Err, arith}
use Rattle.std.proofs.lemmas.Result.{err_from_is_err_and}
use Rattle.lasso_input.specs.Lines.{lines_of}
use Rattle.lasso_codes.specs.Distinct.{DistinctEnd, PassesLine, PassError}
use Rattle.lasso_codes.specs.Stages.{OnTheWay}
use Rattle.lasso_codes.specs.Streams.{IsFed, Writes}
use Rattle.lasso_codes.proofs.Feeds.{no_line, one_line}
use Rattle.lasso_codes.proofs.Stretches.{left_after}
use Rattle.lasso_codes.proofs.Written.{writes_none, writes_as, writes_then, writes_kept}
use Rattle.lasso_codes.proofs.DistinctLines.{way_push, way_ends, way_many, way_read_fails, way_write_fails, way_pass_fails, end_unmade}
use Rattle.lasso_codes.proofs.distinct.write_distinct.Goals as goal

pub returns-in_err-rodeo-clause-report : goal.returns-in_err-rodeo-clause-report
returns-in_err-rodeo-clause-report g c = λ bytes e.
    let p = err_from_is_err_and c.from_residual.result c.from_residual.ensures.1 in
    rw (p.1, p.2) (writes_none _ _ (end_unmade bytes c.args.rule.only_utf8 c.args.limits c.args.input.now.left c.in_err-rodeo.field-0.0 c.in_err-rodeo.ensures.refused))

-- a buffered line is refused or not UTF-8, or is not written
pub returns-in_err-next-clause-report : goal.returns-in_err-next-clause-report
returns-in_err-next-clause-report g c = λ bytes e.
    let p = err_from_is_err_and c.from_residual-in_err-next.result c.from_residual-in_err-next.ensures.1 in
    let at = c.loop-number in
    let limit = c.args.limits in
    let before = c.args.output.now.written in
    let ahead = at.invariant.ahead bytes e in
    let hand = c.buffered-shown.ensures.first ahead.0 ahead.1 in
    let so_far = subst (λ bs. Writes before at.output.written (OnTheWay bytes c.args.rule.only_utf8 limit bs at.number at.rodeo)) hand.1 ahead.2 in
    rw (p.1, p.2) (c.in_err-next.ensures.error bytes hand.0 limit before at.input.left so_far)

pub returns-in_err-flush-clause-report : goal.returns-in_err-flush-clause-report
returns-in_err-flush-clause-report g c = λ bytes e.
    let p = err_from_is_err_and c.from_residual-in_err-flush.result c.from_residual-in_err-flush.ensures.1 in
    let at = c.loop-number in
    let limit = c.args.limits in
    let before = c.args.output.now.written in
    let ahead = at.invariant.ahead bytes e in
    let hand = c.buffered-shown.ensures.first ahead.0 ahead.1 in
    let left = drop c.in_ok-next.used c.buffered-shown.result.now ++ hand.0 in
    let so_far = subst (λ bs. Writes before at.output.written (OnTheWay bytes c.args.rule.only_utf8 limit bs at.number at.rodeo)) hand.1 ahead.2 in
    let then = c.in_ok-next.ensures.passed bytes hand.0 limit before so_far in
    let number = c.in_ok-next.next in
    let now = c.pass_stretch.new.rodeo in
    let error = c.in_err-flush.field-0.0 in
    rw (p.1, p.2) (writes_kept _ _ _ (OnTheWay bytes c.args.rule.only_utf8 limit left number now) (λ part. DistinctEnd bytes c.args.rule.only_utf8 limit c.consume.new.self.left part (Err error)) then c.in_err-flush.ensures.kept (λ part way.
    way_write_fails bytes c.args.rule.only_utf8 limit left number now part way c.consume.new.self.left error c.in_err-flush.ensures.errors))

pub returns-in_err-next_line-clause-report : goal.returns-in_err-next_line-clause-report
returns-in_err-next_line-clause-report g c = λ bytes e.
    let p = err_from_is_err_and c.from_residual-in_err-next_line.result c.from_residual-in_err-next_line.ensures.1 in
    let at = c.loop-number in
    let limit = c.args.limits in
    let before = c.args.output.now.written in
    let ahead = at.invariant.ahead bytes e in
    let hand = c.buffered-shown.ensures.first ahead.0 ahead.1 in
    let shown = c.buffered-shown.result.now in
    let left = drop c.in_ok-next.used shown ++ hand.0 in
    let so_far = subst (λ bs. Writes before at.output.written (OnTheWay bytes c.args.rule.only_utf8 limit bs at.number at.rodeo)) hand.1 ahead.2 in
    let then = c.in_ok-next.ensures.passed bytes hand.0 limit before so_far in
    let number = c.in_ok-next.next in
    let now = c.pass_stretch.new.rodeo in
    let known = left_after _ _ _ shown hand.0 ahead.0 c.in_ok-next.used c.buffered-shown.ensures.value c.consume.ensures.left ahead.1 hand.1 in
    let after = c.next_line.new.input.left in
    let error = c.in_err-next_line.field-0.0 in
    rw (p.1, p.2) (writes_kept _ _ _ (OnTheWay bytes c.args.rule.only_utf8 limit left number now) (λ part. DistinctEnd bytes c.args.rule.only_utf8 limit after part (Err error)) then c.in_ok-flush.ensures.kept (λ part way.
    way_read_fails bytes c.args.rule.only_utf8 limit left number now part way c.consume.new.self.left after error known c.in_err-next_line.ensures.lost c.in_err-next_line.ensures.errors))

pub returns-then-not-branch-clause-report : goal.returns-then-not-branch-clause-report
returns-then-not-branch-clause-report g c = λ bytes e.
    let at = c.loop-number in
    let limit = c.args.limits in
    let before = c.args.output.now.written in
    let ahead = at.invariant.ahead bytes e in
    let hand = c.buffered-shown.ensures.first ahead.0 ahead.1 in
    let shown = c.buffered-shown.result.now in
    let left = drop c.in_ok-next.used shown ++ hand.0 in
    let so_far = subst (λ bs. Writes before at.output.written (OnTheWay bytes c.args.rule.only_utf8 limit bs at.number at.rodeo)) hand.1 ahead.2 in
    let then = c.in_ok-next.ensures.passed bytes hand.0 limit before so_far in
    let number = c.in_ok-next.next in
    let now = c.pass_stretch.new.rodeo in
    let known = left_after _ _ _ shown hand.0 ahead.0 c.in_ok-next.used c.buffered-shown.ensures.value c.consume.ensures.left ahead.1 hand.1 in
    let none = no_line _ _ c.in_ok-next_line.field-0 _ c.in_ok-next_line.ensures.taken c.if-not-branch.true left known in
    writes_kept _ _ _ (OnTheWay bytes c.args.rule.only_utf8 limit left number now) _ then c.in_ok-flush.ensures.kept (λ part way.
    way_ends bytes c.args.rule.only_utf8 limit left number now part way c.next_line.new.input.left none)

pub returns-in_err-pass_line-clause-report : goal.returns-in_err-pass_line-clause-report
returns-in_err-pass_line-clause-report g c = λ bytes e.
    let p = err_from_is_err_and c.from_residual-in_err-pass_line.result c.from_residual-in_err-pass_line.ensures.1 in
    let at = c.loop-number in
    let limit = c.args.limits in
    let before = c.args.output.now.written in
    let ahead = at.invariant.ahead bytes e in
    let hand = c.buffered-shown.ensures.first ahead.0 ahead.1 in
    let shown = c.buffered-shown.result.now in
    let left = drop c.in_ok-next.used shown ++ hand.0 in
    let so_far = subst (λ bs. Writes before at.output.written (OnTheWay bytes c.args.rule.only_utf8 limit bs at.number at.rodeo)) hand.1 ahead.2 in
    let then = c.in_ok-next.ensures.passed bytes hand.0 limit before so_far in
    let number = c.in_ok-next.next in
    let now = c.pass_stretch.new.rodeo in
    let known = left_after _ _ _ shown hand.0 ahead.0 c.in_ok-next.used c.buffered-shown.ensures.value c.consume.ensures.left ahead.1 hand.1 in
    let cut = one_line _ _ c.in_ok-next_line.field-0 _ c.in_ok-next_line.ensures.taken c.if-not-branch.false left known in
    let line = c.untested-whole.result in
    let line_is = subst (λ l. lines_of left ≡ l ∷ lines_of cut.0) (sym (c.untested-whole.ensures ∙ c.deref.ensures.value)) cut.2 in
    let after = c.next_line.new.input.left in
    let error = c.in_err-pass_line.field-0.0 in
    let flushed = writes_kept _ _ _ (OnTheWay bytes c.args.rule.only_utf8 limit left number now) (OnTheWay bytes c.args.rule.only_utf8 limit left number now) then c.in_ok-flush.ensures.kept (λ part on. on) in
    rw (p.1, p.2) (writes_then _ _ _ (OnTheWay bytes c.args.rule.only_utf8 limit left number now) (λ more. PassError c.args.rule.only_utf8 now line number more error) (λ part. DistinctEnd bytes c.args.rule.only_utf8 limit after part (Err error)) flushed c.in_err-pass_line.ensures.written (λ part more on fails.
    way_pass_fails bytes c.args.rule.only_utf8 limit left number now part on after line more cut.0 error line_is fails))

pub loop-number-preserved : goal.loop-number-preserved
loop-number-preserved g c =
    let at = c.loop-number in
    record {
      reads = omega (arith, c.in_ok-next_line.ensures.reads, c.consume.ensures.reads, at.invariant.reads);
      writes = omega (arith, c.in_ok-pass_line.ensures.writes, c.in_ok-flush.ensures.writes, c.in_ok-next.ensures.writes, at.invariant.writes);
      gone = omega (arith, c.in_ok-pass_line.ensures.gone, c.in_ok-flush.ensures.gone, c.in_ok-next.ensures.gone, at.invariant.gone);
      ahead = λ bytes e.
          let limit = c.args.limits in
          let before = c.args.output.now.written in
          let ahead = at.invariant.ahead bytes e in
          let hand = c.buffered-shown.ensures.first ahead.0 ahead.1 in
          let shown = c.buffered-shown.result.now in
          let left = drop c.in_ok-next.used shown ++ hand.0 in
          let so_far = subst (λ bs. Writes before at.output.written (OnTheWay bytes c.args.rule.only_utf8 limit bs at.number at.rodeo)) hand.1 ahead.2 in
          let then = c.in_ok-next.ensures.passed bytes hand.0 limit before so_far in
          let number = c.in_ok-next.next in
          let now = c.pass_stretch.new.rodeo in
          let after = c.pass_line.new.rodeo in
          let known = left_after _ _ _ shown hand.0 ahead.0 c.in_ok-next.used c.buffered-shown.ensures.value c.consume.ensures.left ahead.1 hand.1 in
          let cut = one_line _ _ c.in_ok-next_line.field-0 _ c.in_ok-next_line.ensures.taken c.if-not-branch.false left known in
          let line = c.untested-whole.result in
          let line_is = subst (λ l. lines_of left ≡ l ∷ lines_of cut.0) (sym (c.untested-whole.ensures ∙ c.deref.ensures.value)) cut.2 in
          let fed = subst (λ l. IsFed left l cut.0) (sym (c.untested-whole.ensures ∙ c.deref.ensures.value)) cut.3 in
          let flushed = writes_kept _ _ _ (OnTheWay bytes c.args.rule.only_utf8 limit left number now) (OnTheWay bytes c.args.rule.only_utf8 limit left number now) then c.in_ok-flush.ensures.kept (λ part on. on) in (
            cut.0,
            cut.1,
            writes_then _ _ _ (OnTheWay bytes c.args.rule.only_utf8 limit left number now) (λ more. PassesLine c.args.rule.only_utf8 now line number more after (Ok c.in_ok-pass_line.field-0)) (OnTheWay bytes c.args.rule.only_utf8 limit cut.0 (number + 1) after) flushed c.in_ok-pass_line.ensures.written (λ part more on passed.
                way_push bytes c.args.rule.only_utf8 limit left number now after part more cut.0 line passed.1.0 on line_is passed.0 passed.1.1 passed.2 fed),
          );
    }

pub returns-clause-report : goal.returns-clause-report
returns-clause-report g c = λ bytes e.
    let at = c.loop-number in
    let ahead = at.invariant.ahead bytes e in
    writes_as _ _ (OnTheWay bytes c.args.rule.only_utf8 c.args.limits ahead.0 at.number at.rodeo) _ ahead.2 (λ part way. way_many bytes c.args.rule.only_utf8 c.args.limits ahead.0 at.number at.rodeo part way at.input.left (omega (arith, c.loop-number-test.false)))
