use Rattle.std.proofs.Common.{◌≡◌, ◌+◌, ◌-◌, [], ◌∷◌, ◌++◌, length, drop, ap, sym, subst, ◌∙◌, arith}
use Rattle.std.proofs.lemmas.List.{length-append}
use Rattle.std.proofs.lemmas.Result.{err_from_is_err_and}
use Rattle.lasso_lines.specs.Report.{held_by}
use Rattle.lasso_lines.specs.Stretch.{LeadsTo}
use Rattle.lasso_lines.proofs.FailedCalls.{then_failed, none_failed}
use Rattle.lasso_lines.proofs.Known.{grows_then, only_grows_then}
use Rattle.lasso_lines.proofs.Cuts.{last_bytes, front_more, leads_first, leads_then, fails_first, fails_then}
use Rattle.lasso_lines.proofs.stretches.answer_lines.Goals as goal

-- a line fails
pub returns-in_err-answer_line-clause-answers : goal.returns-in_err-answer_line-clause-answers
returns-in_err-answer_line-clause-answers g c =
    let before = held_by c.args.rodeo.now in
    let mid = held_by c.lines.rodeo in
    let p = err_from_is_err_and c.from_residual.result c.from_residual.ensures.1 in
    rw (p.1, p.2) (grows_then _ _ _ _ _ _ c.lines.invariant.answers c.in_err-answer_line.ensures.answers (λ part reply leads fails.
    fails_then before mid c.args.number c.lines.number (c.args.first.now ++ 10 ∷ c.args.stretch) (c.lines.line ++ 10 ∷ c.lines.lines) part reply _ leads
    (fails_first mid c.lines.number c.lines.line c.lines.lines reply _ c.lines.invariant.no_feed fails)))

pub returns-in_err-answer_line-clause-first : goal.returns-in_err-answer_line-clause-first
returns-in_err-answer_line-clause-first g c = c.answer_line.ensures.first

pub returns-in_err-answer_line-clause-failures : goal.returns-in_err-answer_line-clause-failures
returns-in_err-answer_line-clause-failures g c =
    let p = err_from_is_err_and c.from_residual.result c.from_residual.ensures.1 in
    rw (p.1, p.2) (then_failed _ _ _ _ (none_failed _ _ c.lines.invariant.failures) c.in_err-answer_line.ensures.failures)

pub returns-in_err-answer_line-clause-delivered : goal.returns-in_err-answer_line-clause-delivered
returns-in_err-answer_line-clause-delivered g c = only_grows_then _ _ _ c.lines.invariant.delivered c.answer_line.ensures.delivered

pub returns-in_err-answer_line-clause-faults : goal.returns-in_err-answer_line-clause-faults
returns-in_err-answer_line-clause-faults g c =
    let p = err_from_is_err_and c.from_residual.result c.from_residual.ensures.1 in
    rw (p.1, p.2) c.in_err-answer_line.ensures.faults

-- another line follows
pub lines-preserved : goal.lines-preserved
lines-preserved g c =
    let before = held_by c.args.rodeo.now in
    let mid = held_by c.lines.rodeo in
    let after = held_by c.answer_line.new.rodeo in
    let whole = c.args.first.now ++ 10 ∷ c.args.stretch in
    let rest = c.in-Some.next ++ 10 ∷ c.next_ended.new.self in
    record {
      counted = omega (arith, c.next_number-number.ensures);
      no_feed = c.in-Some.ensures.line.0;
      rest = (c.lines.invariant.rest.0 ++ (c.in-Some.next ++ 10 ∷ []), front_more _ _ _ _ _ c.lines.invariant.rest.1 c.in-Some.ensures.line.1);
      first = c.answer_line.ensures.first;
      failures = omega (arith, c.in_ok-answer_line.ensures.failures, c.lines.invariant.failures);
      delivered = only_grows_then _ _ _ c.lines.invariant.delivered c.answer_line.ensures.delivered;
      answers = grows_then _ _ _ _ _ _ c.lines.invariant.answers c.in_ok-answer_line.ensures.answers (λ part reply leads good.
          subst (λ n. LeadsTo before c.args.number whole after n rest (part ++ reply)) (sym c.next_number-number.ensures)
          (subst (λ bs. LeadsTo before c.args.number whole after (c.lines.number + 1) bs (part ++ reply)) c.in-Some.ensures.line.1
          (leads_then before mid after c.args.number c.lines.number (c.lines.number + 1) whole (c.lines.line ++ 10 ∷ c.lines.lines) c.lines.lines part reply leads
          (leads_first mid after c.lines.number c.lines.line c.lines.lines reply c.lines.invariant.no_feed c.lines.invariant.counted good))));
    }

-- no line follows
pub returns-in_default-clause-answers : goal.returns-in_default-clause-answers
returns-in_default-clause-answers g c =
    let before = held_by c.args.rodeo.now in
    let mid = held_by c.lines.rodeo in
    let after = held_by c.answer_line.new.rodeo in
    let whole = c.args.first.now ++ 10 ∷ c.args.stretch in
    let front = c.lines.invariant.rest.0 in
    let count : length c.rest.result.now ≡ length c.lines.lines = ap length (c.rest.ensures ∙ c.in_default.ensures.line.1) in
    let left : c.lines.lines ≡ drop (length c.args.stretch - length c.lines.lines) c.args.stretch = sym (subst (λ bs. drop (length bs - length c.lines.lines) bs ≡ c.lines.lines) (sym c.lines.invariant.rest.1) (last_bytes front c.lines.lines)) in
    rw (count) (grows_then _ _ _ _ _ _ c.lines.invariant.answers c.in_ok-answer_line.ensures.answers (λ part reply leads good.
    subst (λ n. LeadsTo before c.args.number whole after n (drop (length c.args.stretch - length c.lines.lines) c.args.stretch) (part ++ reply)) (sym c.next_number-number.ensures)
    (subst (λ bs. LeadsTo before c.args.number whole after (c.lines.number + 1) bs (part ++ reply)) left
    (leads_then before mid after c.args.number c.lines.number (c.lines.number + 1) whole (c.lines.line ++ 10 ∷ c.lines.lines) c.lines.lines part reply leads
    (leads_first mid after c.lines.number c.lines.line c.lines.lines reply c.lines.invariant.no_feed c.lines.invariant.counted good)))))

pub returns-in_default-clause-no_feed : goal.returns-in_default-clause-no_feed
returns-in_default-clause-no_feed g c =
    let front = c.lines.invariant.rest.0 in
    let count : length c.rest.result.now ≡ length c.lines.lines = ap length (c.rest.ensures ∙ c.in_default.ensures.line.1) in
    let left : drop (length c.args.stretch - length c.lines.lines) c.args.stretch ≡ c.lines.lines = subst (λ bs. drop (length bs - length c.lines.lines) bs ≡ c.lines.lines) (sym c.lines.invariant.rest.1) (last_bytes front c.lines.lines) in
    rw (count, left) c.in_default.ensures.line.0

pub returns-in_default-clause-left : goal.returns-in_default-clause-left
returns-in_default-clause-left g c =
    let front = c.lines.invariant.rest.0 in
    let count : length c.rest.result.now ≡ length c.lines.lines = ap length (c.rest.ensures ∙ c.in_default.ensures.line.1) in
    omega (arith, count, ap length c.lines.invariant.rest.1, length-append front c.lines.lines)

pub returns-in_default-clause-first : goal.returns-in_default-clause-first
returns-in_default-clause-first g c = c.answer_line.ensures.first

pub returns-in_default-clause-failures : goal.returns-in_default-clause-failures
returns-in_default-clause-failures g c = then_failed _ _ _ _ (none_failed _ _ c.lines.invariant.failures) c.in_ok-answer_line.ensures.failures

pub returns-in_default-clause-delivered : goal.returns-in_default-clause-delivered
returns-in_default-clause-delivered g c = only_grows_then _ _ _ c.lines.invariant.delivered c.answer_line.ensures.delivered
