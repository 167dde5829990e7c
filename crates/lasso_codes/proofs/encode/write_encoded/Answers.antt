use Rattle.std.proofs.Common.{ℕ, ◌^◌, ◌<◌, ◌∙◌, List, length, ap, sym, subst, arith}
use Rattle.std.proofs.lemmas.Result.{err_from_is_err_and}
use Rattle.lasso_single.specs.Filling.{extend}
use Rattle.lasso_single.specs.Interner.{InternerView, made_with}
use Rattle.lasso_single.proofs.Filled.{accepted}
use Rattle.lasso_single.specs.Coding.{spur_at}
use Rattle.lasso_input.specs.Lines.{lines_of}
use Rattle.lasso_columns.specs.Rows.{texts_of, word_of}
use Rattle.lasso_codes.specs.Encode.{AreNumbered, EncodeEnd}
use Rattle.lasso_codes.specs.Limits.{line_texts}
use Rattle.lasso_codes.proofs.Failing.{written_no_read}
use Rattle.lasso_codes.proofs.Written.{writes_none, writes_as}
use Rattle.lasso_codes.proofs.EncodedLines.{none_written, unmade, column_written}
use Rattle.lasso_codes.proofs.encode.write_encoded.Goals as goal

pub returns-in_err-rodeo-clause-report : goal.returns-in_err-rodeo-clause-report
returns-in_err-rodeo-clause-report g c = λ bytes e.
    let p = err_from_is_err_and c.from_residual.result c.from_residual.ensures.1 in
    let null = word_of c.args.null in
    let error = c.in_err-rodeo.field-0.0 in
    rw (p.1, p.2) (writes_none _ _ (none_written bytes c.args.settings.only_utf8 c.args.settings.limit null c.args.settings.binary c.args.input.now.left error (unmade c.args.settings.only_utf8 c.args.settings.limit null (lines_of bytes) c.args.input.now.left error c.in_err-rodeo.ensures.refused)))

pub returns-in_err-number_lines-clause-report : goal.returns-in_err-number_lines-clause-report
returns-in_err-number_lines-clause-report g c = λ bytes e.
    let p = err_from_is_err_and c.from_residual-in_err-number_lines.result c.from_residual-in_err-number_lines.ensures.1 in
    let null = word_of c.args.null in
    let error = c.in_err-number_lines.field-0.0 in
    rw (p.1, p.2) (writes_none _ _ (none_written bytes c.args.settings.only_utf8 c.args.settings.limit null c.args.settings.binary c.number_lines.new.input.left error (c.in_err-number_lines.ensures.error bytes e c.args.settings.limit (c.in_ok-rodeo.ensures.made ∙ ap (λ n. made_with 4096 n) c.new.ensures))))

pub returns-in_err-table-clause-report : goal.returns-in_err-table-clause-report
returns-in_err-table-clause-report g c = λ bytes e.
    let p = err_from_is_err_and c.from_residual-in_err-table.result c.from_residual-in_err-table.ensures.1 in
    let null = word_of c.args.null in
    let only = c.args.settings.only_utf8 in
    let error = c.in_err-table.field-0.0 in
    rw (p.1, p.2) (writes_none _ _ (none_written bytes only c.args.settings.limit null c.args.settings.binary c.number_lines.new.input.left error (unmade only c.args.settings.limit null (lines_of bytes) c.number_lines.new.input.left error c.in_err-table.ensures.refused)))

pub returns-clause-report : goal.returns-clause-report
returns-clause-report g c = λ bytes e.
    let null = word_of c.args.null in
    let numbered = c.in_ok-number_lines.ensures.numbered bytes e in
    let held = c.number_lines.new.numbers in
    let numbers = c.deref.result.now in
    let list = c.number_lines.new.rodeo.texts in
    let are = subst (λ ns. AreNumbered null (lines_of bytes) list ns) (sym c.deref.ensures.value) numbered.1 in
    let few : length held.items < 2 ^ 64 = omega (arith, held.ok.0, held.ok.1, held.small) in
    let many = subst (λ (ns : List ℕ). length ns < 2 ^ 64) (sym c.deref.ensures.value) few in
    let made = c.in_ok-rodeo.ensures.made ∙ ap (λ n. made_with 4096 n) c.new.ensures in
    let interned = subst (λ (i : InternerView). extend spur_at i (line_texts (texts_of null (lines_of bytes))) accepted c.number_lines.new.rodeo) made (c.in_ok-number_lines.ensures.interned bytes e) in
    let result = c.write_column_in_parts.result in
    writes_as _ _ _ (λ part. EncodeEnd bytes c.args.settings.only_utf8 c.args.settings.limit null c.args.settings.binary c.number_lines.new.input.left part result) c.write_column_in_parts.ensures.written (λ part w.
    column_written bytes c.args.settings.only_utf8 c.args.settings.limit null c.args.settings.binary c.number_lines.new.input.left c.in_ok-table.table list numbers part result numbered.0 c.in_ok-table.ensures.lines are (c.number_lines.new.rodeo, interned) many w)

pub returns-clause-reads : goal.returns-clause-reads
returns-clause-reads g c =
    let wrote = c.write_column_in_parts.ensures.written in
    let nothing = written_no_read _ wrote.0 c.write_column_in_parts.result wrote.2 in
    omega (arith, c.in_ok-number_lines.ensures.reads, nothing)
