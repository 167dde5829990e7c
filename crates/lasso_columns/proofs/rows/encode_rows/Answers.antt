use Rattle.std.proofs.Common.{◌≡◌, ◌+◌, ◌-◌, [], length, refl, ap, sym, subst, arith}
use Rattle.std.proofs.lemmas.List.{length_push}
use Rattle.std.proofs.lemmas.Result.{err_from_is_err_and}
use Rattle.lasso_input.specs.Lines.{lines_of}
use Rattle.lasso_columns.specs.Rows.{word_of, IsRowFault}
use Rattle.lasso_columns.proofs.EncodedRows.{rows_begin, rows_push, rows_still, rows_left}
use Rattle.lasso_columns.proofs.rows.encode_rows.Goals as goal

pub loop-line-init : goal.loop-line-init
loop-line-init g c = record {
  rows = rows_begin (word_of c.args.null) c.args.rodeo.now (lines_of c.args.bytes.now) (lines_of c.new-lines.result) c.args.entries.now.items (ap lines_of c.new-lines.ensures);
  counted = omega arith;
  fits = omega (arith, ap length c.new-lines.ensures);
}

pub loop-line-preserved : goal.loop-line-preserved
loop-line-preserved g c =
    let told = c.in_ok-encode_row.ensures in record {
      rows = rows_push (word_of c.args.null) c.args.rodeo.now c.loop-line.rodeo c.encode_row.new.rodeo (lines_of c.args.bytes.now) (lines_of c.loop-line.lines) c.in-Some.line (lines_of c.next_line.new.self) c.args.entries.now.items c.loop-line.entries.items c.encode_row.new.entries.items told.1.0 c.loop-line.invariant.rows c.in-Some.ensures.lines told.0 told.1.1 told.1.2;
      counted = omega (arith, c.loop-line.invariant.counted, ap length told.1.2, length_push c.loop-line.entries.items told.1.0);
      fits = omega (arith, c.in-Some.ensures.less, c.loop-line.invariant.fits);
    }

pub returns-in_err-encode_row-clause-stops : goal.returns-in_err-encode_row-clause-stops
returns-in_err-encode_row-clause-stops g c =
    let p = err_from_is_err_and c.from_residual.result c.from_residual.ensures.1 in
    let told = c.in_err-encode_row.ensures in
    let null = word_of c.args.null in
    let now = c.loop-line.rodeo in
    let after = c.encode_row.new.entries in
    let still = rows_still null c.args.rodeo.now now now (lines_of c.args.bytes.now) (lines_of c.loop-line.lines) c.args.entries.now.items c.loop-line.entries.items after.items c.loop-line.invariant.rows refl told.1 in
    let left = rows_left null c.args.rodeo.now now (lines_of c.args.bytes.now) (lines_of c.loop-line.lines) _ c.args.entries.now.items after.items still (sym c.in-Some.ensures.lines) in
    let many : c.loop-line.number + 1 ≡ length after.items - length c.args.entries.now.items + 1 = omega (arith, c.loop-line.invariant.counted, ap length told.1) in
    let fault = subst (λ n. IsRowFault null now after c.in-Some.line n c.in_err-encode_row.field-0.0) many told.2 in
    rw (p.1, p.2, told.0) (c.in-Some.line, lines_of c.next_line.new.self, left, fault)

pub returns-clause-rows : goal.returns-clause-rows
returns-clause-rows g c =
    rows_left (word_of c.args.null) c.args.rodeo.now c.loop-line.rodeo (lines_of c.args.bytes.now) (lines_of c.loop-line.lines) [] c.args.entries.now.items c.loop-line.entries.items c.loop-line.invariant.rows (sym (ap lines_of c.in_default.ensures.lines))
