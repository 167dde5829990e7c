use Rattle.std.proofs.Common.{ℕ, ◌≡◌, ◌^◌, ◌<◌, List, [], length, map, sym, subst, arith}
use Rattle.std.proofs.lemmas.Result.{err_from_is_err_and}
use Rattle.lasso_parts.specs.Texts.{Text}
use Rattle.lasso_codes.specs.Columns.{column_of, entry_at}
use Rattle.lasso_codes.specs.Recode.{form_of, without_texts, AreRecoded, RecodedEnd}
use Rattle.lasso_codes.specs.Streams.{WritesAll}
use Rattle.lasso_codes.proofs.Failing.{written_no_read}
use Rattle.lasso_codes.proofs.LineTexts.{table_back}
use Rattle.lasso_codes.proofs.RecodedColumns.{dictionary_few, none_recoded, recoded_few, recoded_written, recoding_columns_fail, recoding_dictionary_fails, recoding_unmade}
use Rattle.lasso_codes.proofs.Written.{writes_none, writes_as}
use Rattle.lasso_codes.proofs.recode.write_recoded.Goals as goal

pub returns-in_err-rodeo-clause-report : goal.returns-in_err-rodeo-clause-report
returns-in_err-rodeo-clause-report g c = λ bytes e.
    let p = err_from_is_err_and c.from_residual.result c.from_residual.ensures.1 in
    let only = c.args.rule.only_utf8 in
    let error = c.in_err-rodeo.field-0.0 in
    let left = c.args.input.now.left in
    rw (p.1, p.2) (writes_none _ _ (none_recoded only bytes c.args.limits (form_of c.args.with_texts c.args.binary) left error (recoding_unmade only bytes c.args.limits left error c.in_err-rodeo.ensures.refused)))

pub returns-in_err-read_dictionary-clause-report : goal.returns-in_err-read_dictionary-clause-report
returns-in_err-read_dictionary-clause-report g c = λ bytes e.
    let p = err_from_is_err_and c.from_residual-in_err-read_dictionary.result c.from_residual-in_err-read_dictionary.ensures.1 in
    let only = c.args.rule.only_utf8 in
    let error = c.in_err-read_dictionary.field-0.0 in
    let left = c.read_dictionary.new.input.left in
    rw (p.1, p.2) (writes_none _ _ (none_recoded only bytes c.args.limits (form_of c.args.with_texts c.args.binary) left error (recoding_dictionary_fails only bytes c.args.limits left error (c.in_err-read_dictionary.ensures.error bytes e c.args.limits c.in_ok-rodeo.ensures.made))))

pub add_columns-requires-clause-few : goal.add_columns-requires-clause-few
add_columns-requires-clause-few g c = dictionary_few c.args.limits c.in_ok-rodeo.rodeo c.read_dictionary.new.rodeo c.in_ok-rodeo.ensures.made c.in_ok-read_dictionary.ensures.list

pub returns-in_err-add_columns-clause-report : goal.returns-in_err-add_columns-clause-report
returns-in_err-add_columns-clause-report g c = λ bytes e.
    let p = err_from_is_err_and c.from_residual-in_err-add_columns.result c.from_residual-in_err-add_columns.ensures.1 in
    let only = c.args.rule.only_utf8 in
    let error = c.in_err-add_columns.field-0.0 in
    let left = c.add_columns.new.input.left in
    let first = c.in_ok-read_dictionary.ensures.taken bytes e c.args.limits c.in_ok-rodeo.ensures.made in
    let failed = c.in_err-add_columns.ensures.added first.0 first.5 first.4 first.1 first.2 in
    rw (p.1, p.2) (writes_none _ _ (none_recoded only bytes c.args.limits (form_of c.args.with_texts c.args.binary) left error (recoding_columns_fail only bytes c.args.limits first.0 first.1 first.3 left error failed)))

pub returns-in_err-table-clause-report : goal.returns-in_err-table-clause-report
returns-in_err-table-clause-report g c = λ bytes e.
    let p = err_from_is_err_and c.from_residual-in_err-table.result c.from_residual-in_err-table.ensures.1 in
    let only = c.args.rule.only_utf8 in
    let error = c.in_err-table.field-0.0 in
    let left = c.add_columns.new.input.left in
    rw (p.1, p.2) (writes_none _ _ (none_recoded only bytes c.args.limits (form_of c.args.with_texts c.args.binary) left error (recoding_unmade only bytes c.args.limits left error c.in_err-table.ensures.refused)))

pub returns-then-with_texts-clause-report : goal.returns-then-with_texts-clause-report
returns-then-with_texts-clause-report g c = λ bytes e.
    let only = c.args.rule.only_utf8 in
    let left = c.add_columns.new.input.left in
    let result = c.write_column.result in
    let held = c.add_columns.new.numbers in
    let first = c.in_ok-read_dictionary.ensures.taken bytes e c.args.limits c.in_ok-rodeo.ensures.made in
    let added = c.in_ok-add_columns.ensures.added first.0 first.5 first.4 first.1 first.2 in
    let are : AreRecoded bytes only c.args.limits first.0 (map entry_at held.items) = (first.1, added.0, first.3, added.1) in
    let long : length held.items < 2 ^ 64 = omega (arith, held.ok.0, held.ok.1, held.small) in
    let few = recoded_few c.args.limits c.in_ok-rodeo.rodeo c.read_dictionary.new.rodeo first.0 held.items c.in_ok-rodeo.ensures.made c.in_ok-read_dictionary.ensures.list first.5 long in
    let table_is = table_back c.in_ok-table.table c.read_dictionary.new.rodeo.texts first.0 c.in_ok-table.ensures.lines first.5 first.4 in
    writes_as _ _ _ (λ part. RecodedEnd bytes only c.args.limits (form_of c.args.with_texts c.args.binary) left part result) c.write_column.ensures.written (λ part w.
    let w' = subst (λ (ts : List Text). WritesAll (column_of c.args.binary ts (map entry_at held.items)) result part) table_is (subst (λ (ns : List ℕ). WritesAll (column_of c.args.binary c.in_ok-table.table (map entry_at ns)) result part) c.deref.ensures.value w) in
    subst (λ b. RecodedEnd bytes only c.args.limits (form_of b c.args.binary) left part result) (sym c.if-with_texts.true) (recoded_written only bytes c.args.limits (column_of c.args.binary) left first.0 (map entry_at held.items) part result are few w'))

pub returns-clause-report : goal.returns-clause-report
returns-clause-report g c = λ bytes e.
    let only = c.args.rule.only_utf8 in
    let left = c.add_columns.new.input.left in
    let result = c.write_codes.result in
    let held = c.add_columns.new.numbers in
    let first = c.in_ok-read_dictionary.ensures.taken bytes e c.args.limits c.in_ok-rodeo.ensures.made in
    let added = c.in_ok-add_columns.ensures.added first.0 first.5 first.4 first.1 first.2 in
    let are : AreRecoded bytes only c.args.limits first.0 (map entry_at held.items) = (first.1, added.0, first.3, added.1) in
    let long : length held.items < 2 ^ 64 = omega (arith, held.ok.0, held.ok.1, held.small) in
    let few = recoded_few c.args.limits c.in_ok-rodeo.rodeo c.read_dictionary.new.rodeo first.0 held.items c.in_ok-rodeo.ensures.made c.in_ok-read_dictionary.ensures.list first.5 long in
    writes_as _ _ _ (λ part. RecodedEnd bytes only c.args.limits (form_of c.args.with_texts c.args.binary) left part result) c.write_codes.ensures.written (λ part w.
    let w' = subst (λ (ns : List ℕ). WritesAll (column_of c.args.binary [] (map entry_at ns)) result part) c.deref-else-with_texts.ensures.value w in
    subst (λ b. RecodedEnd bytes only c.args.limits (form_of b c.args.binary) left part result) (sym c.if-with_texts.false) (recoded_written only bytes c.args.limits (without_texts c.args.binary) left first.0 (map entry_at held.items) part result are few w'))

pub returns-then-with_texts-clause-reads : goal.returns-then-with_texts-clause-reads
returns-then-with_texts-clause-reads g c =
    let wrote = c.write_column.ensures.written in
    let nothing = written_no_read _ wrote.0 c.write_column.result wrote.2 in
    omega (arith, c.in_ok-read_dictionary.ensures.reads, c.in_ok-add_columns.ensures.reads, nothing)

pub returns-clause-reads : goal.returns-clause-reads
returns-clause-reads g c =
    let wrote = c.write_codes.ensures.written in
    let nothing = written_no_read _ wrote.0 c.write_codes.result wrote.2 in
    omega (arith, c.in_ok-read_dictionary.ensures.reads, c.in_ok-add_columns.ensures.reads, nothing)
