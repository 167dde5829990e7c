use Rattle.std.proofs.Common.{◌≡◌, [], Some, Err, inr, arith, refl, sym, subst, drop, length}
use Rattle.std.proofs.lemmas.Result.{err_from_is_err_and}
use Rattle.std.proofs.lemmas.Grind.{common_steps}
use Rattle.lasso_lines.specs.Report.{Ends, EndsFrom, held_by}
use Rattle.lasso_lines.specs.Answer.{last_lines}
use Rattle.lasso_lines.specs.declared.fault.RunFault.TheVariants.{Refused}
use Rattle.lasso_lines.proofs.EndFaults.{answer_reads, answer_no_read, answer_no_usage, stream_no_usage}
use Rattle.lasso_lines.proofs.FailedCalls.{none_failed}
use Rattle.lasso_lines.proofs.Known.{nothing_more, grows_then, grows_stays, stays_grows, only_grows_then, on_ok}
use Rattle.lasso_lines.proofs.Ways.{OnTheWay, way_goes_on, way_shown, way_fails, way_stops, way_ended, stream_ends}
use Rattle.lasso_lines.proofs.engine.answer_input.Goals as goal

pub returns-in-Err-clause-report : goal.returns-in-Err-clause-report
returns-in-Err-clause-report g c = λ input e.
    let limit = c.args.limits in
    nothing_more _ _ (subst (λ error. Ends input limit [] (Err (Refused 0 error))) (sym c.in-Err.ensures.refused) (inr (refl, inr (refl, refl, refl))))

-- a line of the stretch fails
pub returns-in_err-number-clause-report : goal.returns-in_err-number-clause-report
returns-in_err-number-clause-report g c = λ input e.
    let ahead = c.stretches.invariant.ahead input e in
    let buffer = c.buffer-buffer.result.now in
    let held = held_by c.stretches.rodeo in
    let begun = c.stretches.begun.items in
    let number = c.stretches.number in
    let p = err_from_is_err_and c.from_residual.result c.from_residual.ensures.1 in
    rw (p.1, p.2) (grows_then _ _ _ _ _ _ ahead.2 c.in_err-number.ensures.answers (λ part reply way fails.
    way_fails input c.args.limits held number begun buffer (drop (length buffer) ahead.0) part reply _ (way_shown input c.args.limits held number begun buffer ahead.0 part (c.buffer-buffer.ensures.first ahead.0 ahead.1) way) fails))

pub returns-in_err-number-clause-delivered : goal.returns-in_err-number-clause-delivered
returns-in_err-number-clause-delivered g c = only_grows_then _ _ _ c.stretches.invariant.delivered c.answer_stretch.ensures.delivered

-- its lines are answered, but a flush or the next read fails
pub returns-in_err-ask_for_more-clause-report : goal.returns-in_err-ask_for_more-clause-report
returns-in_err-ask_for_more-clause-report g c = λ input e.
    let ahead = c.stretches.invariant.ahead input e in
    let buffer = c.buffer-buffer.result.now in
    let rest = drop (length buffer) ahead.0 in
    let held = held_by c.stretches.rodeo in
    let after = held_by c.answer_stretch.new.rodeo in
    let begun = c.answer_stretch.new.begun.items in
    let number = c.in_ok-number.number in
    let p = err_from_is_err_and c.from_residual-in_err-ask_for_more.result c.from_residual-in_err-ask_for_more.ensures.1 in
    rw (p.1, p.2) (grows_stays _ _ _ _ _ (grows_then _ _ _ _ _ (OnTheWay input c.args.limits after number begun rest) ahead.2 c.in_ok-number.ensures.answers (λ part reply way leads.
    way_goes_on input c.args.limits held after c.stretches.number number c.stretches.begun.items buffer begun ahead.0 part reply (c.buffer-buffer.ensures.first ahead.0 ahead.1) way leads)) c.ask_for_more.ensures.written (λ part way.
    stream_ends input c.args.limits part _ c.in_err-ask_for_more.ensures.faults (way_stops input c.args.limits after number begun rest part way)))

pub returns-in_err-ask_for_more-clause-delivered : goal.returns-in_err-ask_for_more-clause-delivered
returns-in_err-ask_for_more-clause-delivered g c =
    only_grows_then _ _ _ (only_grows_then _ _ _ c.stretches.invariant.delivered c.answer_stretch.ensures.delivered) c.ask_for_more.ensures.delivered

-- the input has ended
pub returns-then-is_empty-clause-report : goal.returns-then-is_empty-clause-report
returns-then-is_empty-clause-report g c = λ input e.
    let ahead = c.stretches.invariant.ahead input e in
    let buffer = c.buffer-buffer.result.now in
    let rest = drop (length buffer) ahead.0 in
    let held = held_by c.stretches.rodeo in
    let after = held_by c.answer_stretch.new.rodeo in
    let begun = c.answer_stretch.new.begun.items in
    let number = c.in_ok-number.number in
    let none : g.I.ByteReader.at_hand c.ask_for_more.new.reader ≡ [] = grind (arith, common_steps) in
    let behind = c.consume.ensures.left ahead.0 ahead.1 in
    let ended : g.I.ByteReader.left c.ask_for_more.new.reader ≡ Some [] = c.in_ok-ask_for_more.ensures.end none rest behind in
    let kept : g.I.ByteReader.left c.ask_for_more.new.reader ≡ Some rest = c.ask_for_more.ensures.left rest behind in
    let gone : rest ≡ [] = cc in
    grows_then _ _ _ _ _ _ (grows_then _ _ _ _ _ (OnTheWay input c.args.limits after number begun rest) ahead.2 c.in_ok-number.ensures.answers (λ part reply way leads.
    way_goes_on input c.args.limits held after c.stretches.number number c.stretches.begun.items buffer begun ahead.0 part reply (c.buffer-buffer.ensures.first ahead.0 ahead.1) way leads)) (stays_grows _ _ _ _ c.ask_for_more.ensures.written c.answer_end.ensures.answers) (λ part more way ends.
    way_ended input c.args.limits after number begun rest part more c.answer_end.result c.in_ok-number.ensures.held gone
    (subst (λ bs. EndsFrom after number (last_lines bs) more c.answer_end.result) c.deref.ensures.value ends) way)

pub returns-then-is_empty-clause-whole : goal.returns-then-is_empty-clause-whole
returns-then-is_empty-clause-whole g c =
    let none : g.I.ByteReader.at_hand c.ask_for_more.new.reader ≡ [] = grind (arith, common_steps) in
    on_ok c.answer_end.result _ (λ input e.
    let ahead = c.stretches.invariant.ahead input e in
    c.in_ok-ask_for_more.ensures.end none _ (c.consume.ensures.left ahead.0 ahead.1))

pub returns-then-is_empty-clause-delivered : goal.returns-then-is_empty-clause-delivered
returns-then-is_empty-clause-delivered g c =
    let answered = only_grows_then _ _ _ c.stretches.invariant.delivered c.answer_stretch.ensures.delivered in
    only_grows_then _ _ _ (only_grows_then _ _ _ answered c.ask_for_more.ensures.delivered) c.answer_end.ensures.delivered

-- more bytes are in the buffer
pub stretches-preserved : goal.stretches-preserved
stretches-preserved g c =
    let buffer = c.buffer-buffer.result.now in
    let held = held_by c.stretches.rodeo in
    let after = held_by c.answer_stretch.new.rodeo in
    let begun = c.answer_stretch.new.begun.items in
    let number = c.in_ok-number.number in
    record {
      counted = c.in_ok-number.ensures.counted;
      first = c.answer_stretch.ensures.first;
      reads = omega (arith, c.in_ok-ask_for_more.ensures.reads, c.consume.ensures.failures, c.stretches.invariant.reads);
      writes = omega (arith, c.in_ok-ask_for_more.ensures.writes, c.in_ok-number.ensures.failures, c.stretches.invariant.writes);
      delivered = only_grows_then _ _ _ (only_grows_then _ _ _ c.stretches.invariant.delivered c.answer_stretch.ensures.delivered) c.ask_for_more.ensures.delivered;
      no_feed = c.in_ok-number.ensures.held;
      ahead = λ input e.
          let ahead = c.stretches.invariant.ahead input e in
          let rest = drop (length buffer) ahead.0 in (
            rest,
            c.ask_for_more.ensures.left rest (c.consume.ensures.left ahead.0 ahead.1),
            grows_stays _ _ _ _ _ (grows_then _ _ _ _ _ (OnTheWay input c.args.limits after number begun rest) ahead.2 c.in_ok-number.ensures.answers (λ part reply way leads.
                way_goes_on input c.args.limits held after c.stretches.number number c.stretches.begun.items buffer begun ahead.0 part reply (c.buffer-buffer.ensures.first ahead.0 ahead.1) way leads)) c.ask_for_more.ensures.written (λ part way. way),
          );
    }

-- ---- the counts of failed calls, and what is pending

pub returns-in-Err-clause-reads : goal.returns-in-Err-clause-reads
returns-in-Err-clause-reads g c = none_failed _ _ refl

pub returns-in-Err-clause-writes : goal.returns-in-Err-clause-writes
returns-in-Err-clause-writes g c = none_failed _ _ refl

pub returns-in-Err-clause-delivered : goal.returns-in-Err-clause-delivered
returns-in-Err-clause-delivered g c = nothing_more _ _ tt

pub returns-in_err-number-clause-reads : goal.returns-in_err-number-clause-reads
returns-in_err-number-clause-reads g c =
    let p = err_from_is_err_and c.from_residual.result c.from_residual.ensures.1 in
    rw (p.1, p.2) (answer_reads _ _ (Err c.in_err-number.field-0.0) c.in_err-number.ensures.faults (none_failed _ _ c.stretches.invariant.reads))

pub returns-in_err-number-clause-flushed : goal.returns-in_err-number-clause-flushed
returns-in_err-number-clause-flushed g c =
    let p = err_from_is_err_and c.from_residual.result c.from_residual.ensures.1 in
    rw (p.1, p.2) (λ failed. absurd (answer_no_read (Err c.in_err-number.field-0.0) c.in_err-number.ensures.faults failed))

pub returns-in_err-number-clause-no_usage : goal.returns-in_err-number-clause-no_usage
returns-in_err-number-clause-no_usage g c =
    let p = err_from_is_err_and c.from_residual.result c.from_residual.ensures.1 in
    rw (p.1, p.2) (answer_no_usage (Err c.in_err-number.field-0.0) c.in_err-number.ensures.faults)

pub returns-in_err-ask_for_more-clause-flushed : goal.returns-in_err-ask_for_more-clause-flushed
returns-in_err-ask_for_more-clause-flushed g c =
    let p = err_from_is_err_and c.from_residual-in_err-ask_for_more.result c.from_residual-in_err-ask_for_more.ensures.1 in
    rw (p.1, p.2) (λ failed. c.in_err-ask_for_more.ensures.flushed (λ other. cc (failed, other)))

pub returns-in_err-ask_for_more-clause-no_usage : goal.returns-in_err-ask_for_more-clause-no_usage
returns-in_err-ask_for_more-clause-no_usage g c =
    let p = err_from_is_err_and c.from_residual-in_err-ask_for_more.result c.from_residual-in_err-ask_for_more.ensures.1 in
    rw (p.1, p.2) (stream_no_usage (Err c.in_err-ask_for_more.field-0.0) c.in_err-ask_for_more.ensures.faults)

pub returns-then-is_empty-clause-flushed : goal.returns-then-is_empty-clause-flushed
returns-then-is_empty-clause-flushed g c = λ failed. absurd (answer_no_read c.answer_end.result c.answer_end.ensures.faults failed)

pub returns-then-is_empty-clause-no_usage : goal.returns-then-is_empty-clause-no_usage
returns-then-is_empty-clause-no_usage g c = answer_no_usage c.answer_end.result c.answer_end.ensures.faults
