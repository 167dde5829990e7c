use Rattle.std.proofs.Common.{◌≡◌, ◌+◌, ◌<◌, [], ◌++◌, Ok, Err, drop, refl, subst, arith}
use Rattle.std.proofs.lemmas.Result.{err_from_is_err_and}
use Rattle.lasso_columns.specs.Rows.{word_of}
use Rattle.lasso_codes.specs.Decode.{line_at, WritesEntry, WritesLines, DecodingError}
use Rattle.lasso_codes.specs.Errors.{IsOutputError}
use Rattle.lasso_codes.specs.Stages.{LinesAhead}
use Rattle.lasso_codes.specs.Reading.{entry_items}
use Rattle.lasso_codes.specs.Streams.{Writes}
use Rattle.lasso_codes.proofs.DecodedLines.{line_refuses, lines_cut, lines_read_fails, lines_end, entry_done, entry_fails}
use Rattle.lasso_codes.proofs.Failing.{output_not_read}
use Rattle.lasso_codes.proofs.Stretches.{left_after}
use Rattle.lasso_codes.proofs.Written.{writes_as, writes_then}
use Rattle.lasso_codes.proofs.decode.write_lines.Goals as goal

pub returns-in_err-next-clause-written : goal.returns-in_err-next-clause-written
returns-in_err-next-clause-written g c = λ bytes e.
    let p = err_from_is_err_and c.from_residual.result c.from_residual.ensures.1 in
    let at = c.loop-count in
    let header = c.args.header in
    let make = line_at (word_of c.args.null) c.args.table.now in
    let before = c.args.output.now.written in
    let ahead = at.invariant.ahead bytes e in
    let hand = c.buffered-shown.ensures.first ahead.0 ahead.1 in
    let so_far = subst (λ bs. Writes before at.output.written (LinesAhead make header.binary bytes bs at.count)) hand.1 ahead.2 in
    let error = c.in_err-next.field-0.0 in
    rw (p.1, p.2) (writes_as _ _ (λ part. DecodingError (entry_items make header bytes) c.args.column part error) (λ part. WritesLines (entry_items make header) bytes c.args.column at.input.left part (Err error)) (c.in_err-next.ensures.error bytes hand.0 before so_far) (λ part told.
    (told, λ is. absurd (output_not_read error c.in_err-next.ensures.faults is))))

-- the last entry is in the buffer
pub returns-then-next-header-clause-written : goal.returns-then-next-header-clause-written
returns-then-next-header-clause-written g c = λ bytes e.
    let at = c.loop-count in
    let header = c.args.header in
    let make = line_at (word_of c.args.null) c.args.table.now in
    let before = c.args.output.now.written in
    let ahead = at.invariant.ahead bytes e in
    let shown = c.buffered-shown.result.now in
    let hand = c.buffered-shown.ensures.first ahead.0 ahead.1 in
    let so_far = subst (λ bs. Writes before at.output.written (LinesAhead make header.binary bytes bs at.count)) hand.1 ahead.2 in
    let then = c.in_ok-next.ensures.written bytes hand.0 before so_far in
    let next = c.in_ok-next.next in
    let left = drop c.in_ok-next.used shown ++ hand.0 in
    let known = left_after _ _ _ shown hand.0 ahead.0 c.in_ok-next.used c.buffered-shown.ensures.value c.consume.ensures.left ahead.1 hand.1 in
    writes_as _ _ (LinesAhead make header.binary bytes left next) (λ part. WritesLines (entry_items make header) bytes c.args.column c.consume.new.self.left part (Ok tt)) then (λ part on.
    lines_end make header bytes left next part on c.args.column c.consume.new.self.left known c.if-next-header.true)

pub returns-in_err-entry-clause-written : goal.returns-in_err-entry-clause-written
returns-in_err-entry-clause-written g c = λ bytes e.
    let p = err_from_is_err_and c.from_residual-in_err-entry.result c.from_residual-in_err-entry.ensures.1 in
    let at = c.loop-count in
    let header = c.args.header in
    let null = word_of c.args.null in
    let list = c.args.table.now in
    let make = line_at null list in
    let before = c.args.output.now.written in
    let ahead = at.invariant.ahead bytes e in
    let shown = c.buffered-shown.result.now in
    let hand = c.buffered-shown.ensures.first ahead.0 ahead.1 in
    let so_far = subst (λ bs. Writes before at.output.written (LinesAhead make header.binary bytes bs at.count)) hand.1 ahead.2 in
    let then = c.in_ok-next.ensures.written bytes hand.0 before so_far in
    let next = c.in_ok-next.next in
    let left = drop c.in_ok-next.used shown ++ hand.0 in
    let known = left_after _ _ _ shown hand.0 ahead.0 c.in_ok-next.used c.buffered-shown.ensures.value c.consume.ensures.left ahead.1 hand.1 in
    let small : next < header.lines = omega (arith, c.in_ok-next.ensures.more, c.if-next-header.false) in
    let after = c.next_entry.new.input.left in
    let error = c.in_err-entry.field-0.0 in
    rw (p.1, p.2) (writes_as _ _ (LinesAhead make header.binary bytes left next) (λ part. WritesLines (entry_items make header) bytes c.args.column after part (Err error)) then (λ part on. (
      lines_read_fails make header bytes left next part on c.args.column error (omega (arith, small)) c.in_err-entry.ensures.errors,
      λ is. lines_cut make header bytes left next part on after (line_refuses null list) small (c.in_err-entry.ensures.lost left known),
    )))

pub returns-in_err-write_entry_line-clause-written : goal.returns-in_err-write_entry_line-clause-written
returns-in_err-write_entry_line-clause-written g c = λ bytes e.
    let p = err_from_is_err_and c.from_residual-in_err-write_entry_line.result c.from_residual-in_err-write_entry_line.ensures.1 in
    let at = c.loop-count in
    let header = c.args.header in
    let null = word_of c.args.null in
    let list = c.args.table.now in
    let make = line_at null list in
    let before = c.args.output.now.written in
    let ahead = at.invariant.ahead bytes e in
    let shown = c.buffered-shown.result.now in
    let hand = c.buffered-shown.ensures.first ahead.0 ahead.1 in
    let so_far = subst (λ bs. Writes before at.output.written (LinesAhead make header.binary bytes bs at.count)) hand.1 ahead.2 in
    let then = c.in_ok-next.ensures.written bytes hand.0 before so_far in
    let next = c.in_ok-next.next in
    let left = drop c.in_ok-next.used shown ++ hand.0 in
    let known = left_after _ _ _ shown hand.0 ahead.0 c.in_ok-next.used c.buffered-shown.ensures.value c.consume.ensures.left ahead.1 hand.1 in
    let cut = c.in_ok-entry.ensures.taken left known in
    let entry = c.in_ok-entry.entry in
    let made = make entry (next + 1) in
    let small : next < header.lines = omega (arith, c.in_ok-next.ensures.more, c.if-next-header.false) in
    let error = c.in_err-write_entry_line.field-0.0 in
    rw (p.1, p.2) (writes_then _ _ _ (LinesAhead make header.binary bytes left next) (WritesEntry made c.args.column (Err error)) (λ part. WritesLines (entry_items make header) bytes c.args.column c.next_entry.new.input.left part (Err error)) then c.in_err-write_entry_line.ensures.written (λ part more on written. (
      entry_fails null list header bytes left cut.0 next entry part small cut.2 on made c.args.column more error refl written,
      λ is. absurd (output_not_read error c.in_err-write_entry_line.ensures.faults is),
    )))

pub loop-count-preserved : goal.loop-count-preserved
loop-count-preserved g c =
    let at = c.loop-count in
    let header = c.args.header in
    let null = word_of c.args.null in
    let list = c.args.table.now in
    let make = line_at null list in
    let next = c.in_ok-next.next in
    let small : next < header.lines = omega (arith, c.in_ok-next.ensures.more, c.if-next-header.false) in
    record {
      within = omega (arith, small);
      reads = omega (arith, c.in_ok-entry.ensures.reads, c.consume.ensures.reads, at.invariant.reads);
      writes = omega (arith, c.in_ok-write_entry_line.ensures.writes, c.in_ok-next.ensures.writes, at.invariant.writes);
      gone = omega (arith, c.in_ok-write_entry_line.ensures.gone, c.in_ok-next.ensures.gone, at.invariant.gone);
      ahead = λ bytes e.
          let before = c.args.output.now.written in
          let ahead = at.invariant.ahead bytes e in
          let shown = c.buffered-shown.result.now in
          let hand = c.buffered-shown.ensures.first ahead.0 ahead.1 in
          let so_far = subst (λ bs. Writes before at.output.written (LinesAhead make header.binary bytes bs at.count)) hand.1 ahead.2 in
          let then = c.in_ok-next.ensures.written bytes hand.0 before so_far in
          let left = drop c.in_ok-next.used shown ++ hand.0 in
          let known = left_after _ _ _ shown hand.0 ahead.0 c.in_ok-next.used c.buffered-shown.ensures.value c.consume.ensures.left ahead.1 hand.1 in
          let cut = c.in_ok-entry.ensures.taken left known in
          let entry = c.in_ok-entry.entry in
          let made = make entry (next + 1) in (
            cut.0,
            cut.1,
            writes_then _ _ _ (LinesAhead make header.binary bytes left next) (WritesEntry made c.args.column (Ok c.in_ok-write_entry_line.field-0)) (LinesAhead make header.binary bytes cut.0 (next + 1)) then c.in_ok-write_entry_line.ensures.written (λ part more on written.
                entry_done null list header bytes left cut.0 next entry part small cut.2 on made c.args.column more refl written),
          );
    }

pub returns-clause-written : goal.returns-clause-written
returns-clause-written g c = λ bytes e.
    let at = c.loop-count in
    let header = c.args.header in
    let make = line_at (word_of c.args.null) c.args.table.now in
    let ahead = at.invariant.ahead bytes e in
    writes_as _ _ (LinesAhead make header.binary bytes ahead.0 at.count) (λ part. WritesLines (entry_items make header) bytes c.args.column at.input.left part (Ok tt)) ahead.2 (λ part on.
    lines_end make header bytes ahead.0 at.count part on c.args.column at.input.left ahead.1 (omega (arith, c.loop-count-test.false, at.invariant.within)))
