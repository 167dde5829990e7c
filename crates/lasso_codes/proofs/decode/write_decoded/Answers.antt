use Rattle.std.proofs.Common.{ℕ, ◌≡◌, ◌+◌, ◌∙◌, List, Result, Ok, Err, ap, arith, refl, sym}
use Rattle.std.proofs.lemmas.Result.{err_from_is_err_and}
use Rattle.lasso_parts.specs.Texts.{Text}
use Rattle.lasso_columns.specs.Rows.{word_of}
use Rattle.lasso_codes.specs.Decode.{line_at, fed_lines, DecodeEnd, WritesLines}
use Rattle.lasso_codes.specs.Limits.{line_texts}
use Rattle.lasso_codes.specs.Reading.{entry_items}
use Rattle.lasso_codes.specs.declared.error.ColumnError.{ColumnError}
use Rattle.lasso_codes.specs.declared.error.RunError.TheVariants.{TooManyLines}
use Rattle.lasso_codes.proofs.Cuts.{column_local}
use Rattle.lasso_codes.proofs.Failing.{header_input, input_no_write, input_none_gone}
use Rattle.lasso_codes.proofs.Items.{admitted_list, header_taken, header_none, header_unread}
use Rattle.lasso_codes.proofs.DecodedLines.{ColumnsAhead, columns_begin, columns_push, columns_end, columns_many, columns_header_fails, columns_unmade, columns_texts_fail, columns_lines_fail, line_refuses}
use Rattle.lasso_codes.proofs.LineTexts.{table_back}
use Rattle.lasso_codes.proofs.Written.{writes_as, writes_none, writes_then}
use Rattle.lasso_codes.proofs.decode.write_decoded.Goals as goal

pub returns-in_err-header-clause-report : goal.returns-in_err-header-clause-report
returns-in_err-header-clause-report g c = λ bytes e.
    let p = err_from_is_err_and c.from_residual.result c.from_residual.ensures.1 in
    let at = c.loop-column in
    let ahead = at.invariant.ahead bytes e in
    let null = word_of c.args.null in
    let error = c.in_err-header.field-0.0 in
    let after = c.next_header.new.input.left in
    rw (p.1, p.2) (writes_as _ _ (ColumnsAhead c.args.rule.only_utf8 bytes c.args.limits null ahead.0 at.column) (λ part. DecodeEnd bytes c.args.rule.only_utf8 c.args.limits null after part (Err error)) ahead.2 (λ part way.
    columns_header_fails c.args.rule.only_utf8 bytes c.args.limits null ahead.0 at.column part way after error (header_unread _ _ at.column error ahead.0 c.in_err-header.ensures.error ahead.1)))

pub returns-in_default-clause-report : goal.returns-in_default-clause-report
returns-in_default-clause-report g c = λ bytes e.
    let at = c.loop-column in
    let ahead = at.invariant.ahead bytes e in
    let null = word_of c.args.null in
    let after = c.next_header.new.input.left in
    writes_as _ _ (ColumnsAhead c.args.rule.only_utf8 bytes c.args.limits null ahead.0 at.column) (λ part. DecodeEnd bytes c.args.rule.only_utf8 c.args.limits null after part (Ok tt)) ahead.2 (λ part way.
    columns_end c.args.rule.only_utf8 bytes c.args.limits null ahead.0 at.column part way after (header_none _ _ c.in_ok-header.field-0 c.in_ok-header.ensures.taken c.in_default.is ahead.0 ahead.1))

pub returns-clause-report : goal.returns-clause-report
returns-clause-report g c = λ bytes e.
    let at = c.loop-column in
    let ahead = at.invariant.ahead bytes e in
    let null = word_of c.args.null in
    let after = at.input.left in
    writes_as _ _ (ColumnsAhead c.args.rule.only_utf8 bytes c.args.limits null ahead.0 at.column) (λ part. DecodeEnd bytes c.args.rule.only_utf8 c.args.limits null after part (Err TooManyLines)) ahead.2 (λ part way.
    columns_many c.args.rule.only_utf8 bytes c.args.limits null ahead.0 at.column part way after (omega (arith, c.loop-column-test.false)))

pub returns-in_err-rodeo-clause-report : goal.returns-in_err-rodeo-clause-report
returns-in_err-rodeo-clause-report g c = λ bytes e.
    let p = err_from_is_err_and c.from_residual-in_err-rodeo.result c.from_residual-in_err-rodeo.ensures.1 in
    let at = c.loop-column in
    let ahead = at.invariant.ahead bytes e in
    let null = word_of c.args.null in
    let error = c.in_err-rodeo.field-0.0 in
    let after = c.next_header.new.input.left in
    rw (p.1, p.2) (writes_as _ _ (ColumnsAhead c.args.rule.only_utf8 bytes c.args.limits null ahead.0 at.column) (λ part. DecodeEnd bytes c.args.rule.only_utf8 c.args.limits null after part (Err error)) ahead.2 (λ part way.
    columns_unmade c.args.rule.only_utf8 bytes c.args.limits null ahead.0 at.column part way after error c.in_err-rodeo.ensures.refused))

pub returns-in_err-read_texts-clause-report : goal.returns-in_err-read_texts-clause-report
returns-in_err-read_texts-clause-report g c = λ bytes e.
    let p = err_from_is_err_and c.from_residual-in_err-read_texts.result c.from_residual-in_err-read_texts.ensures.1 in
    let at = c.loop-column in
    let ahead = at.invariant.ahead bytes e in
    let null = word_of c.args.null in
    let header = c.in-Some.header in
    let head = header_taken _ _ c.in_ok-header.field-0 header c.in_ok-header.ensures.taken c.in-Some.is ahead.0 ahead.1 in
    let error = c.in_err-read_texts.field-0.0 in
    let after = c.read_texts.new.input.left in
    rw (p.1, p.2) (writes_as _ _ (ColumnsAhead c.args.rule.only_utf8 bytes c.args.limits null ahead.0 at.column) (λ part. DecodeEnd bytes c.args.rule.only_utf8 c.args.limits null after part (Err error)) ahead.2 (λ part way.
    columns_texts_fail c.args.rule.only_utf8 bytes c.args.limits null ahead.0 at.column part way header head.0 head.2 after error (c.in_err-read_texts.ensures.error head.0 head.1 c.args.limits c.in_ok-rodeo.ensures.made)))

pub returns-in_err-table-clause-report : goal.returns-in_err-table-clause-report
returns-in_err-table-clause-report g c = λ bytes e.
    let p = err_from_is_err_and c.from_residual-in_err-table.result c.from_residual-in_err-table.ensures.1 in
    let at = c.loop-column in
    let ahead = at.invariant.ahead bytes e in
    let null = word_of c.args.null in
    let error = c.in_err-table.field-0.0 in
    let after = c.read_texts.new.input.left in
    rw (p.1, p.2) (writes_as _ _ (ColumnsAhead c.args.rule.only_utf8 bytes c.args.limits null ahead.0 at.column) (λ part. DecodeEnd bytes c.args.rule.only_utf8 c.args.limits null after part (Err error)) ahead.2 (λ part way.
    columns_unmade c.args.rule.only_utf8 bytes c.args.limits null ahead.0 at.column part way after error c.in_err-table.ensures.refused))

pub returns-in_err-write_lines-clause-report : goal.returns-in_err-write_lines-clause-report
returns-in_err-write_lines-clause-report g c = λ bytes e.
    let p = err_from_is_err_and c.from_residual-in_err-write_lines.result c.from_residual-in_err-write_lines.ensures.1 in
    let at = c.loop-column in
    let only = c.args.rule.only_utf8 in
    let limit = c.args.limits in
    let ahead = at.invariant.ahead bytes e in
    let null = word_of c.args.null in
    let header = c.in-Some.header in
    let head = header_taken _ _ c.in_ok-header.field-0 header c.in_ok-header.ensures.taken c.in-Some.is ahead.0 ahead.1 in
    let list = c.in_ok-table.table in
    let texts = c.in_ok-read_texts.ensures.taken head.0 head.1 in
    let table_is : list ≡ texts.2.0 = table_back list c.read_texts.new.rodeo.texts texts.2.0 c.in_ok-table.ensures.lines texts.2.3 texts.2.2 in
    let list_read = texts.2.1 ∙ ap (λ (ls : List Text). Ok (ls, texts.0)) (sym table_is) in
    let taken = admitted_list limit c.in_ok-rodeo.rodeo c.read_texts.new.rodeo list (texts.2.3 ∙ ap line_texts (sym table_is)) c.in_ok-rodeo.ensures.made c.in_ok-read_texts.ensures.list in
    let after = c.write_lines.new.input.left in
    let error = c.in_err-write_lines.field-0.0 in
    rw (p.1, p.2) (writes_then _ _ _ (ColumnsAhead only bytes limit null ahead.0 at.column) (λ more. WritesLines (entry_items (line_at null list) header) texts.0 at.column after more (Err error)) (λ part. DecodeEnd bytes only limit null after part (Err error)) ahead.2 (c.in_err-write_lines.ensures.written texts.0 texts.1) (λ part more way told.
    columns_lines_fail only bytes limit null ahead.0 at.column part way header head.0 texts.0 list head.2 list_read taken after more error told.0 told.1))

pub loop-column-init : goal.loop-column-init
loop-column-init g c = record {
  reads = refl;
  writes = refl;
  gone = refl;
  ahead = λ bytes e. (bytes, e, writes_none _ _ (columns_begin c.args.rule.only_utf8 bytes c.args.limits (word_of c.args.null)));
}

pub loop-column-preserved : goal.loop-column-preserved
loop-column-preserved g c =
    let at = c.loop-column in
    record {
      reads = omega (arith, c.in_ok-write_lines.ensures.reads, c.in_ok-read_texts.ensures.reads, c.in_ok-header.ensures.reads, at.invariant.reads);
      writes = omega (arith, c.in_ok-write_lines.ensures.writes, at.invariant.writes);
      gone = omega (arith, c.in_ok-write_lines.ensures.gone, at.invariant.gone);
      ahead = λ bytes e.
          let only = c.args.rule.only_utf8 in
          let limit = c.args.limits in
          let ahead = at.invariant.ahead bytes e in
          let null = word_of c.args.null in
          let header = c.in-Some.header in
          let head = header_taken _ _ c.in_ok-header.field-0 header c.in_ok-header.ensures.taken c.in-Some.is ahead.0 ahead.1 in
          let list = c.in_ok-table.table in
          let texts = c.in_ok-read_texts.ensures.taken head.0 head.1 in
          let table_is : list ≡ texts.2.0 = table_back list c.read_texts.new.rodeo.texts texts.2.0 c.in_ok-table.ensures.lines texts.2.3 texts.2.2 in
          let list_read = texts.2.1 ∙ ap (λ (ls : List Text). Ok (ls, texts.0)) (sym table_is) in
          let taken = admitted_list limit c.in_ok-rodeo.rodeo c.read_texts.new.rodeo list (texts.2.3 ∙ ap line_texts (sym table_is)) c.in_ok-rodeo.ensures.made c.in_ok-read_texts.ensures.list in
          let read = entry_items (line_at null list) header texts.0 in
          let lines = c.in_ok-write_lines.ensures.written texts.0 texts.1 in
          let rest = lines.2.0 in
          let col = column_local only (line_at null) ahead.0 head.0 texts.0 rest header list read.0 (line_refuses null list) head.2 list_read (ap (λ (o : Result (List ℕ) ColumnError). (read.0, o)) lines.2.2) in (
            rest,
            lines.2.1,
            writes_then _ _ _ (ColumnsAhead only bytes limit null ahead.0 at.column) (λ more. more ≡ fed_lines read.0) (ColumnsAhead only bytes limit null rest (at.column + 1)) ahead.2 (lines.0, lines.1, lines.2.3) (λ part more way told.
                columns_push only bytes limit null ahead.0 at.column part way rest more read.0 list col taken told),
          );
    }

pub returns-in_err-header-clause-writes : goal.returns-in_err-header-clause-writes
returns-in_err-header-clause-writes g c =
    let p = err_from_is_err_and c.from_residual.result c.from_residual.ensures.1 in
    let error = c.in_err-header.field-0.0 in
    let none = input_no_write error (header_input _ _ _ error c.in_err-header.ensures.error) in
    rw (p.1, p.2) (omega (arith, c.loop-column.invariant.writes, none))

pub returns-in_err-header-clause-gone : goal.returns-in_err-header-clause-gone
returns-in_err-header-clause-gone g c =
    let p = err_from_is_err_and c.from_residual.result c.from_residual.ensures.1 in
    let error = c.in_err-header.field-0.0 in
    let none = input_none_gone error (header_input _ _ _ error c.in_err-header.ensures.error) in
    rw (p.1, p.2) (omega (arith, c.loop-column.invariant.gone, none))
