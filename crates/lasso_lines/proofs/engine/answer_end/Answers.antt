use Rattle.std.proofs.Common.{◌≡◌, ◌-◌, ◌<◌, [], ◌∷◌, ◌++◌, length, drop, ap, arith, subst}
use Rattle.std.proofs.lemmas.List.{length-drop}
use Rattle.std.proofs.lemmas.Grind.{common_steps}
use Rattle.std.proofs.lemmas.Result.{err_from_is_err_and}
use Rattle.lasso_lines.specs.Report.{held_by}
use Rattle.lasso_lines.specs.Stretch.{LeadsTo, FailsWith}
use Rattle.lasso_lines.proofs.FailedCalls.{then_failed}
use Rattle.lasso_lines.proofs.Known.{grows_as, grows_then, only_grows_then, write_fault}
use Rattle.lasso_lines.proofs.Ways.{last_fails, last_then, no_last}
use Rattle.lasso_lines.proofs.engine.answer_end.Goals as goal

pub returns-then-is_empty-clause-answers : goal.returns-then-is_empty-clause-answers
returns-then-is_empty-clause-answers g c =
    let before = held_by c.args.rodeo.now in
    grows_as _ _ _ _ c.answer_counts.ensures.bytes (λ part wrote. no_last before c.args.number c.args.line.now part _ (grind (arith, common_steps)) wrote)

pub returns-in_err-answer_lines-clause-answers : goal.returns-in_err-answer_lines-clause-answers
returns-in_err-answer_lines-clause-answers g c =
    let p = err_from_is_err_and c.from_residual.result c.from_residual.ensures.1 in
    let before = held_by c.args.rodeo.now in
    let line = c.args.line.now in
    let filled : 0 < length line = grind (arith, common_steps) in
    let same : line ++ 10 ∷ c.new.result ≡ line ++ 10 ∷ [] = ap (λ bs. line ++ 10 ∷ bs) c.new.ensures in
    rw (p.1, p.2) (grows_as _ _ _ _ c.in_err-answer_lines.ensures.answers (λ part fails.
    last_fails before c.args.number line part _ c.requires.no_feed filled (subst (λ bs. FailsWith before c.args.number bs part c.in_err-answer_lines.field-0.0) same fails)))

pub returns-clause-answers : goal.returns-clause-answers
returns-clause-answers g c =
    let before = held_by c.args.rodeo.now in
    let after = held_by c.answer_lines.new.rodeo in
    let line = c.args.line.now in
    let reply = c.in_ok-answer_lines.field-0 in
    let rest = drop (length c.new.result - reply.1) c.new.result in
    let filled : 0 < length line = grind (arith, common_steps) in
    let none : length rest ≡ 0 = omega (arith, length-drop (length c.new.result - reply.1) c.new.result, ap length c.new.ensures) in
    let same : line ++ 10 ∷ c.new.result ≡ line ++ 10 ∷ [] = ap (λ bs. line ++ 10 ∷ bs) c.new.ensures in
    grows_then _ _ _ _ _ _ c.in_ok-answer_lines.ensures.answers c.answer_counts-2.ensures.bytes (λ part more leads wrote.
    last_then before after c.args.number reply.0 line rest part more _ c.requires.no_feed filled none (subst (λ bs. LeadsTo before c.args.number bs after reply.0 rest part) same leads) wrote)

pub returns-then-is_empty-clause-failures : goal.returns-then-is_empty-clause-failures
returns-then-is_empty-clause-failures g c = c.answer_counts.ensures.failures

pub returns-then-is_empty-clause-delivered : goal.returns-then-is_empty-clause-delivered
returns-then-is_empty-clause-delivered g c = c.answer_counts.ensures.delivered

pub returns-then-is_empty-clause-faults : goal.returns-then-is_empty-clause-faults
returns-then-is_empty-clause-faults g c = write_fault _ c.answer_counts.ensures.faults

pub returns-in_err-answer_lines-clause-failures : goal.returns-in_err-answer_lines-clause-failures
returns-in_err-answer_lines-clause-failures g c =
    let p = err_from_is_err_and c.from_residual.result c.from_residual.ensures.1 in
    rw (p.1, p.2) c.in_err-answer_lines.ensures.failures

pub returns-in_err-answer_lines-clause-delivered : goal.returns-in_err-answer_lines-clause-delivered
returns-in_err-answer_lines-clause-delivered g c = c.answer_lines.ensures.delivered

pub returns-in_err-answer_lines-clause-faults : goal.returns-in_err-answer_lines-clause-faults
returns-in_err-answer_lines-clause-faults g c =
    let p = err_from_is_err_and c.from_residual.result c.from_residual.ensures.1 in
    rw (p.1, p.2) c.in_err-answer_lines.ensures.faults

pub returns-clause-failures : goal.returns-clause-failures
returns-clause-failures g c = then_failed _ _ _ _ c.in_ok-answer_lines.ensures.failures c.answer_counts-2.ensures.failures

pub returns-clause-delivered : goal.returns-clause-delivered
returns-clause-delivered g c = only_grows_then _ _ _ c.answer_lines.ensures.delivered c.answer_counts-2.ensures.delivered

pub returns-clause-faults : goal.returns-clause-faults
returns-clause-faults g c = write_fault _ c.answer_counts-2.ensures.faults
