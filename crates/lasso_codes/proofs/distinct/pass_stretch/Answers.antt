use Rattle.std.proofs.Common.{◌+◌, ◌∙◌, ◌++◌, Ok, Err, inl, refl, sym, subst, arith}
use Rattle.std.proofs.lemmas.Result.{err_from_is_err_and}
use Rattle.lasso_input.proofs.FirstLines.{lines_fed}
use Rattle.lasso_input.proofs.Remaining.{IsEndOf, end_after, whole_is_end}
use Rattle.lasso_codes.specs.Distinct.{DistinctEnd, PassesLine, PassError}
use Rattle.lasso_codes.specs.Stages.{OnTheWay}
use Rattle.lasso_codes.specs.Streams.{Writes}
use Rattle.lasso_codes.specs.declared.error.RunError.TheVariants.{TooManyLines}
use Rattle.lasso_codes.proofs.DistinctLines.{fed_more, way_push, way_many, way_pass_fails}
use Rattle.lasso_codes.proofs.Written.{writes_as, writes_then}
use Rattle.lasso_codes.proofs.distinct.pass_stretch.Goals as goal

pub loop-number-init : goal.loop-number-init
loop-number-init g c = record {
  end = subst (λ bs. IsEndOf bs c.args.stretch.now) (sym c.new-lines.ensures) (whole_is_end c.args.stretch.now);
  passed = λ input later limit before so_far. subst (λ bs. Writes before c.args.output.now.written (OnTheWay input c.args.rule.only_utf8 limit (bs ++ later) c.args.first c.args.rodeo.now)) (sym c.new-lines.ensures) so_far;
  writes = refl;
  gone = refl;
}

pub taken-requires : goal.taken-requires
taken-requires g c = subst (λ bs. IsEndOf bs c.args.stretch.now) (sym c.in_default.ensures.line.1) c.loop-number.invariant.end

pub returns-in_default-clause-passed : goal.returns-in_default-clause-passed
returns-in_default-clause-passed g c = λ input later limit before so_far.
    let at = c.loop-number in
    subst (λ bs. Writes before at.output.written (OnTheWay input c.args.rule.only_utf8 limit (bs ++ later) at.number at.rodeo)) (sym (c.taken.ensures.left ∙ c.in_default.ensures.line.1)) (at.invariant.passed input later limit before so_far)

pub returns-in_err-pass_line-clause-error : goal.returns-in_err-pass_line-clause-error
returns-in_err-pass_line-clause-error g c =
    let p = err_from_is_err_and c.from_residual.result c.from_residual.ensures.1 in
    let at = c.loop-number in
    let line = c.in-Some.line in
    let rest = c.next_ended.new.self in
    let error = c.in_err-pass_line.field-0.0 in
    rw (p.1, p.2) (λ input later limit before after so_far.
    let left = at.lines ++ later in
    writes_then _ _ _ (OnTheWay input c.args.rule.only_utf8 limit left at.number at.rodeo) (λ more. PassError c.args.rule.only_utf8 at.rodeo line at.number more error) (λ part. DistinctEnd input c.args.rule.only_utf8 limit after part (Err error)) (at.invariant.passed input later limit before so_far) c.in_err-pass_line.ensures.written (λ part more on fails.
    way_pass_fails input c.args.rule.only_utf8 limit left at.number at.rodeo part on after line more (rest ++ later) error (lines_fed at.lines line rest later c.in-Some.ensures.line) fails))

pub loop-number-preserved : goal.loop-number-preserved
loop-number-preserved g c =
    let at = c.loop-number in
    let line = c.in-Some.line in
    let rest = c.next_ended.new.self in
    let cut = c.in-Some.ensures.line in
    let after = c.pass_line.new.rodeo in
    record {
      end = end_after at.lines c.args.stretch.now line rest at.invariant.end cut.1;
      passed = λ input later limit before so_far.
          let left = at.lines ++ later in
          let following = rest ++ later in
          writes_then _ _ _ (OnTheWay input c.args.rule.only_utf8 limit left at.number at.rodeo) (λ more. PassesLine c.args.rule.only_utf8 at.rodeo line at.number more after (Ok c.in_ok-pass_line.field-0)) (OnTheWay input c.args.rule.only_utf8 limit following (at.number + 1) after) (at.invariant.passed input later limit before so_far) c.in_ok-pass_line.ensures.written (λ part more on passed.
          way_push input c.args.rule.only_utf8 limit left at.number at.rodeo after part more following line passed.1.0 on (lines_fed at.lines line rest later cut) passed.0 passed.1.1 passed.2 (inl (fed_more at.lines line rest later cut.1)));
      writes = omega (arith, c.in_ok-pass_line.ensures.writes, at.invariant.writes);
      gone = omega (arith, c.in_ok-pass_line.ensures.gone, at.invariant.gone);
    }

pub returns-clause-error : goal.returns-clause-error
returns-clause-error g c = λ input later limit before after so_far.
    let at = c.loop-number in
    let left = at.lines ++ later in
    writes_as _ _ (OnTheWay input c.args.rule.only_utf8 limit left at.number at.rodeo) (λ part. DistinctEnd input c.args.rule.only_utf8 limit after part (Err TooManyLines)) (at.invariant.passed input later limit before so_far) (λ part on. way_many input c.args.rule.only_utf8 limit left at.number at.rodeo part on after (omega (arith, c.loop-number-test.false)))
