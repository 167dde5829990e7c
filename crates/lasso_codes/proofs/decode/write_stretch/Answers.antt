use Rattle.std.proofs.Common.{◌≡◌, ◌+◌, ◌-◌, ◌++◌, Ok, Err, length, take, drop, ap, subst, refl, arith, length-drop}
use Rattle.std.proofs.lemmas.Result.{err_from_is_err_and}
use Rattle.lasso_input.proofs.FirstLines.{rest_behind}
use Rattle.lasso_columns.specs.Rows.{word_of}
use Rattle.lasso_codes.specs.Decode.{line_at, DecodingError, WritesEntry}
use Rattle.lasso_codes.specs.Stages.{LinesAhead}
use Rattle.lasso_codes.specs.Reading.{entry_items}
use Rattle.lasso_codes.specs.Streams.{Writes}
use Rattle.lasso_codes.proofs.DecodedLines.{entry_done, entry_fails}
use Rattle.lasso_codes.proofs.Stretches.{next_entry_cut}
use Rattle.lasso_codes.proofs.Written.{writes_then}
use Rattle.lasso_codes.proofs.decode.write_stretch.Goals as goal

pub returns-in_err-write_entry_line-clause-error : goal.returns-in_err-write_entry_line-clause-error
returns-in_err-write_entry_line-clause-error g c =
    let p = err_from_is_err_and c.from_residual.result c.from_residual.ensures.1 in
    let at = c.loop-position in
    let stretch = c.args.stretch.now in
    let rest = take (length stretch - at.used) (drop at.used stretch) in
    let header = c.args.header in
    let null = word_of c.args.null in
    let list = c.args.table.now in
    let column = c.args.column in
    let entry = c.in-Some.entry in
    let len = c.in-Some.len in
    let made = line_at null list entry (at.position + 1) in
    let error = c.in_err-write_entry_line.field-0.0 in
    rw (p.1, p.2) (λ bytes later before so_far.
    let left = drop at.used stretch ++ later in
    let following = drop (at.used + len) stretch ++ later in
    let cut = next_entry_cut stretch rest at.used len (rest_behind at.used stretch) header.binary entry c.in-Some.ensures.cut later in
    writes_then _ _ _ (LinesAhead (line_at null list) header.binary bytes left at.position) (WritesEntry made column (Err error)) (λ part. DecodingError (entry_items (line_at null list) header bytes) column part error) (at.invariant.written bytes later before so_far) c.in_err-write_entry_line.ensures.written (λ part more on written.
    entry_fails null list header bytes left following at.position entry part c.loop-position-test.true cut on made column more error refl written))

pub loop-position-preserved : goal.loop-position-preserved
loop-position-preserved g c =
    let at = c.loop-position in
    let stretch = c.args.stretch.now in
    let rest = take (length stretch - at.used) (drop at.used stretch) in
    let same : rest ≡ drop at.used stretch = rest_behind at.used stretch in
    let long : length rest ≡ length (drop at.used stretch) = ap (λ bs. length bs) same in
    let header = c.args.header in
    let null = word_of c.args.null in
    let list = c.args.table.now in
    let column = c.args.column in
    let entry = c.in-Some.entry in
    let len = c.in-Some.len in
    let made = line_at null list entry (at.position + 1) in
    record {
      within = omega (arith, c.in-Some.ensures.within, at.invariant.within, long, length-drop at.used stretch);
      writes = omega (arith, c.in_ok-write_entry_line.ensures.writes, at.invariant.writes);
      gone = omega (arith, c.in_ok-write_entry_line.ensures.gone, at.invariant.gone);
      written = λ bytes later before so_far.
          let left = drop at.used stretch ++ later in
          let following = drop (at.used + len) stretch ++ later in
          let cut = next_entry_cut stretch rest at.used len same header.binary entry c.in-Some.ensures.cut later in
          writes_then _ _ _ (LinesAhead (line_at null list) header.binary bytes left at.position) (WritesEntry made column (Ok c.in_ok-write_entry_line.field-0)) (LinesAhead (line_at null list) header.binary bytes following (at.position + 1)) (at.invariant.written bytes later before so_far) c.in_ok-write_entry_line.ensures.written (λ part more on written.
          entry_done null list header bytes left following at.position entry part c.loop-position-test.true cut on made column more refl written);
    }

pub returns-clause-written : goal.returns-clause-written
returns-clause-written g c = λ bytes later before so_far.
    let at = c.loop-position in
    let header = c.args.header in
    let make = line_at (word_of c.args.null) c.args.table.now in
    let all : at.position ≡ header.lines = omega (arith, c.loop-position-test.false, at.auto.position-end, c.requires) in
    let left = drop at.used c.args.stretch.now ++ later in
    subst (λ n. Writes before at.output.written (LinesAhead make header.binary bytes left n)) all (at.invariant.written bytes later before so_far)
