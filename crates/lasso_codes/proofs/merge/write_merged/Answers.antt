use Rattle.std.proofs.Common.{ℕ, ◌^◌, ◌<◌, cond, List, length, sym, subst, arith}
use Rattle.std.proofs.lemmas.Result.{err_from_is_err_and}
use Rattle.lasso_codes.specs.Columns.{column_of}
use Rattle.lasso_codes.specs.Merge.{without_entries, AreMerged, MergedEnd}
use Rattle.lasso_codes.proofs.Failing.{written_no_read}
use Rattle.lasso_codes.proofs.Written.{writes_none, writes_as}
use Rattle.lasso_codes.proofs.MergedColumns.{none_merged, unmade, merged_written}
use Rattle.lasso_codes.proofs.merge.write_merged.Goals as goal

pub returns-in_err-rodeo-clause-report : goal.returns-in_err-rodeo-clause-report
returns-in_err-rodeo-clause-report g c = λ bytes e.
    let p = err_from_is_err_and c.from_residual.result c.from_residual.ensures.1 in
    let error = c.in_err-rodeo.field-0.0 in
    rw (p.1, p.2) (writes_none _ _ (none_merged c.args.rule.only_utf8 bytes c.args.limits (cond c.args.with_entries (column_of c.args.binary) (without_entries c.args.binary)) c.args.input.now.left error (unmade c.args.rule.only_utf8 bytes c.args.limits c.args.input.now.left error c.in_err-rodeo.ensures.refused)))

pub returns-in_err-merge_columns-clause-report : goal.returns-in_err-merge_columns-clause-report
returns-in_err-merge_columns-clause-report g c = λ bytes e.
    let p = err_from_is_err_and c.from_residual-in_err-merge_columns.result c.from_residual-in_err-merge_columns.ensures.1 in
    let error = c.in_err-merge_columns.field-0.0 in
    rw (p.1, p.2) (writes_none _ _ (none_merged c.args.rule.only_utf8 bytes c.args.limits (cond c.args.with_entries (column_of c.args.binary) (without_entries c.args.binary)) c.merge_columns.new.input.left error (c.in_err-merge_columns.ensures.error bytes e)))

pub returns-in_err-table-clause-report : goal.returns-in_err-table-clause-report
returns-in_err-table-clause-report g c = λ bytes e.
    let p = err_from_is_err_and c.from_residual-in_err-table.result c.from_residual-in_err-table.ensures.1 in
    let error = c.in_err-table.field-0.0 in
    rw (p.1, p.2) (writes_none _ _ (none_merged c.args.rule.only_utf8 bytes c.args.limits (cond c.args.with_entries (column_of c.args.binary) (without_entries c.args.binary)) c.merge_columns.new.input.left error (unmade c.args.rule.only_utf8 bytes c.args.limits c.merge_columns.new.input.left error c.in_err-table.ensures.refused)))

pub returns-then-with_entries-clause-report : goal.returns-then-with_entries-clause-report
returns-then-with_entries-clause-report g c = λ bytes e.
    let held = c.merge_columns.new.numbers in
    let numbers = c.deref.result.now in
    let list = c.merge_columns.new.rodeo.texts in
    let left = c.merge_columns.new.input.left in
    let are = subst (λ ns. AreMerged bytes c.args.rule.only_utf8 c.args.limits list ns) (sym c.deref.ensures.value) (c.in_ok-merge_columns.ensures.merged bytes e) in
    let few : length held.items < 2 ^ 64 = omega (arith, held.ok.0, held.ok.1, held.small) in
    let result = c.write_column.result in
    writes_as _ _ _ (λ part. MergedEnd bytes c.args.rule.only_utf8 c.args.limits (cond c.args.with_entries (column_of c.args.binary) (without_entries c.args.binary)) left part result) c.write_column.ensures.written (λ part w.
    subst (λ b. MergedEnd bytes c.args.rule.only_utf8 c.args.limits (cond b (column_of c.args.binary) (without_entries c.args.binary)) left part result) (sym c.if-with_entries.true) (merged_written c.args.rule.only_utf8 bytes c.args.limits (column_of c.args.binary) left c.in_ok-table.table list numbers part result c.in_ok-table.ensures.lines are (subst (λ (ns : List ℕ). length ns < 2 ^ 64) (sym c.deref.ensures.value) few) w))

pub returns-clause-report : goal.returns-clause-report
returns-clause-report g c = λ bytes e.
    let held = c.merge_columns.new.numbers in
    let list = c.merge_columns.new.rodeo.texts in
    let left = c.merge_columns.new.input.left in
    let few : length held.items < 2 ^ 64 = omega (arith, held.ok.0, held.ok.1, held.small) in
    let result = c.write_column-else-with_entries.result in
    writes_as _ _ _ (λ part. MergedEnd bytes c.args.rule.only_utf8 c.args.limits (cond c.args.with_entries (column_of c.args.binary) (without_entries c.args.binary)) left part result) c.write_column-else-with_entries.ensures.written (λ part w.
    subst (λ b. MergedEnd bytes c.args.rule.only_utf8 c.args.limits (cond b (column_of c.args.binary) (without_entries c.args.binary)) left part result) (sym c.if-with_entries.false) (merged_written c.args.rule.only_utf8 bytes c.args.limits (without_entries c.args.binary) left c.in_ok-table.table list held.items part result c.in_ok-table.ensures.lines (c.in_ok-merge_columns.ensures.merged bytes e) few w))

pub returns-then-with_entries-clause-reads : goal.returns-then-with_entries-clause-reads
returns-then-with_entries-clause-reads g c =
    let wrote = c.write_column.ensures.written in
    let nothing = written_no_read _ wrote.0 c.write_column.result wrote.2 in
    omega (arith, c.in_ok-merge_columns.ensures.reads, nothing)

pub returns-clause-reads : goal.returns-clause-reads
returns-clause-reads g c =
    let wrote = c.write_column-else-with_entries.ensures.written in
    let nothing = written_no_read _ wrote.0 c.write_column-else-with_entries.result wrote.2 in
    omega (arith, c.in_ok-merge_columns.ensures.reads, nothing)
