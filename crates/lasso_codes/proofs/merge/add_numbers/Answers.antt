use Rattle.std.proofs.Common.{◌≡◌, ◌+◌, ◌<◌, ◌++◌, drop, refl, subst, arith}
use Rattle.std.proofs.lemmas.Result.{err_from_is_err_and}
use Rattle.lasso_codes.specs.Merge.{recoded, EntriesError}
use Rattle.lasso_codes.specs.Reading.{entry_items}
use Rattle.lasso_codes.specs.Stages.{EntriesAhead}
use Rattle.lasso_codes.proofs.Failing.{data_not_read}
use Rattle.lasso_codes.proofs.MergedColumns.{entries_end, entries_read_fails, entries_short, number_added, number_fails}
use Rattle.lasso_codes.proofs.Stretches.{left_after}
use Rattle.lasso_codes.proofs.merge.add_numbers.Goals as goal

pub returns-in_err-next-clause-added : goal.returns-in_err-next-clause-added
returns-in_err-next-clause-added g c =
    let p = err_from_is_err_and c.from_residual.result c.from_residual.ensures.1 in
    let at = c.loop-count in
    let header = c.args.header in
    let error = c.in_err-next.field-0.0 in
    rw (p.1, p.2) (λ list texts are few bytes e.
    let before = c.args.numbers.now.items in
    let ahead = at.invariant.ahead list texts are few bytes e in
    let hand = c.buffered.ensures.first ahead.0 ahead.1 in
    let so_far = subst (λ bs. EntriesAhead (recoded list texts) header.binary bytes bs at.count before at.numbers.items) hand.1 ahead.2 in
    (c.in_err-next.ensures.error list texts are few bytes hand.0 before so_far, λ is. absurd (data_not_read error c.in_err-next.ensures.faults is)))

-- the last entry is in the buffer
pub returns-then-next-header-clause-added : goal.returns-then-next-header-clause-added
returns-then-next-header-clause-added g c = λ list texts are few bytes e.
    let at = c.loop-count in
    let header = c.args.header in
    let make = recoded list texts in
    let before = c.args.numbers.now.items in
    let ahead = at.invariant.ahead list texts are few bytes e in
    let shown = c.buffered.result.now in
    let hand = c.buffered.ensures.first ahead.0 ahead.1 in
    let so_far = subst (λ bs. EntriesAhead make header.binary bytes bs at.count before at.numbers.items) hand.1 ahead.2 in
    let then = c.in_ok-next.ensures.added list texts are few bytes hand.0 before so_far in
    let next = c.in_ok-next.next in
    let left = drop c.in_ok-next.used shown ++ hand.0 in
    let known = left_after _ _ _ shown hand.0 ahead.0 c.in_ok-next.used c.buffered.ensures.value c.consume.ensures.left ahead.1 hand.1 in
    entries_end list texts header bytes left next before c.add_stretch.new.numbers.items then c.args.column c.consume.new.self.left known c.if-next-header.true

pub returns-in_err-entry-clause-added : goal.returns-in_err-entry-clause-added
returns-in_err-entry-clause-added g c =
    let p = err_from_is_err_and c.from_residual-in_err-entry.result c.from_residual-in_err-entry.ensures.1 in
    let at = c.loop-count in
    let header = c.args.header in
    let error = c.in_err-entry.field-0.0 in
    rw (p.1, p.2) (λ list texts are few bytes e.
    let make = recoded list texts in
    let before = c.args.numbers.now.items in
    let ahead = at.invariant.ahead list texts are few bytes e in
    let shown = c.buffered.result.now in
    let hand = c.buffered.ensures.first ahead.0 ahead.1 in
    let so_far = subst (λ bs. EntriesAhead make header.binary bytes bs at.count before at.numbers.items) hand.1 ahead.2 in
    let then = c.in_ok-next.ensures.added list texts are few bytes hand.0 before so_far in
    let next = c.in_ok-next.next in
    let left = drop c.in_ok-next.used shown ++ hand.0 in
    let known = left_after _ _ _ shown hand.0 ahead.0 c.in_ok-next.used c.buffered.ensures.value c.consume.ensures.left ahead.1 hand.1 in
    let small : next < header.lines = omega (arith, c.in_ok-next.ensures.more, c.if-next-header.false) in (
      entries_read_fails (entry_items make header bytes) c.args.column error c.in_err-entry.ensures.errors,
      λ is. entries_short list texts header bytes left next before c.add_stretch.new.numbers.items then c.next_entry.new.input.left small (c.in_err-entry.ensures.lost left known),
    ))

pub returns-in_err-add_number-clause-added : goal.returns-in_err-add_number-clause-added
returns-in_err-add_number-clause-added g c =
    let p = err_from_is_err_and c.from_residual-in_err-add_number.result c.from_residual-in_err-add_number.ensures.1 in
    let at = c.loop-count in
    let header = c.args.header in
    let error = c.in_err-add_number.field-0.0 in
    rw (p.1, p.2) (λ list texts are few bytes e.
    let make = recoded list texts in
    let before = c.args.numbers.now.items in
    let ahead = at.invariant.ahead list texts are few bytes e in
    let shown = c.buffered.result.now in
    let hand = c.buffered.ensures.first ahead.0 ahead.1 in
    let so_far = subst (λ bs. EntriesAhead make header.binary bytes bs at.count before at.numbers.items) hand.1 ahead.2 in
    let then = c.in_ok-next.ensures.added list texts are few bytes hand.0 before so_far in
    let next = c.in_ok-next.next in
    let left = drop c.in_ok-next.used shown ++ hand.0 in
    let known = left_after _ _ _ shown hand.0 ahead.0 c.in_ok-next.used c.buffered.ensures.value c.consume.ensures.left ahead.1 hand.1 in
    let small : next < header.lines = omega (arith, c.in_ok-next.ensures.more, c.if-next-header.false) in
    let cut = c.in_ok-entry.ensures.taken left known in
    let entry = c.in_ok-entry.entry in (
      number_fails list texts header bytes left next before c.add_stretch.new.numbers.items then entry cut.0 cut.2 (make entry (next + 1)) c.args.column c.add_number.new.numbers.items error small refl (c.in_err-add_number.ensures.added list texts are few),
      λ is. absurd (data_not_read error c.in_err-add_number.ensures.faults is),
    ))

pub loop-count-preserved : goal.loop-count-preserved
loop-count-preserved g c =
    let at = c.loop-count in
    let header = c.args.header in
    let small : c.in_ok-next.next < header.lines = omega (arith, c.in_ok-next.ensures.more, c.if-next-header.false) in
    record {
      within = omega (arith, small);
      reads = omega (arith, c.in_ok-entry.ensures.reads, c.consume.ensures.reads, at.invariant.reads);
      ahead = λ list texts are few bytes e.
          let make = recoded list texts in
          let before = c.args.numbers.now.items in
          let ahead = at.invariant.ahead list texts are few bytes e in
          let shown = c.buffered.result.now in
          let hand = c.buffered.ensures.first ahead.0 ahead.1 in
          let so_far = subst (λ bs. EntriesAhead make header.binary bytes bs at.count before at.numbers.items) hand.1 ahead.2 in
          let then = c.in_ok-next.ensures.added list texts are few bytes hand.0 before so_far in
          let next = c.in_ok-next.next in
          let left = drop c.in_ok-next.used shown ++ hand.0 in
          let known = left_after _ _ _ shown hand.0 ahead.0 c.in_ok-next.used c.buffered.ensures.value c.consume.ensures.left ahead.1 hand.1 in
          let cut = c.in_ok-entry.ensures.taken left known in
          let entry = c.in_ok-entry.entry in
          (cut.0, cut.1, number_added list texts header bytes left next before c.add_stretch.new.numbers.items then entry cut.0 cut.2 (make entry (next + 1)) c.args.column c.add_number.new.numbers.items refl (c.in_ok-add_number.ensures.added list texts are few));
    }

pub returns-clause-added : goal.returns-clause-added
returns-clause-added g c = λ list texts are few bytes e.
    let at = c.loop-count in
    let ahead = at.invariant.ahead list texts are few bytes e in
    entries_end list texts c.args.header bytes ahead.0 at.count c.args.numbers.now.items at.numbers.items ahead.2 c.args.column at.input.left ahead.1 (omega (arith, c.loop-count-test.false, at.invariant.within))
