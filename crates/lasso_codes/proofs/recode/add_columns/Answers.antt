use Rattle.std.proofs.Common.{ℕ, List, map, refl, sym, subst, arith}
use Rattle.std.proofs.lemmas.Result.{err_from_is_err_and}
use Rattle.lasso_single.specs.Codes.{AreCodes}
use Rattle.lasso_codes.specs.Columns.{entry_at}
use Rattle.lasso_codes.proofs.Items.{header_taken, header_none, header_unread}
use Rattle.lasso_codes.proofs.RecodedColumns.{columns_unmade, recoding_begins, recoding_body_fails, recoding_ends, recoding_header_fails, recoding_many, recoding_none, recoding_push}
use Rattle.lasso_codes.proofs.recode.add_columns.Goals as goal

pub returns-in_err-own-clause-added : goal.returns-in_err-own-clause-added
returns-in_err-own-clause-added g c =
    let p = err_from_is_err_and c.from_residual.result c.from_residual.ensures.1 in
    let error = c.in_err-own.field-0.0 in
    rw (p.1, p.2) (λ list texts_are list_bytes bytes e. columns_unmade c.args.rule.only_utf8 c.args.limits list bytes c.args.input.now.left error c.in_err-own.ensures.refused)

pub returns-in_err-header-clause-added : goal.returns-in_err-header-clause-added
returns-in_err-header-clause-added g c =
    let p = err_from_is_err_and c.from_residual-in_err-header.result c.from_residual-in_err-header.ensures.1 in
    let at = c.loop-column in
    let error = c.in_err-header.field-0.0 in
    rw (p.1, p.2) (λ list texts_are list_bytes bytes e.
    let ahead = at.invariant.ahead list texts_are list_bytes bytes e in
    recoding_header_fails c.args.rule.only_utf8 c.args.limits list bytes ahead.0 at.column (map entry_at at.numbers.items) ahead.2 c.next_header.new.input.left error (header_unread _ _ at.column error ahead.0 c.in_err-header.ensures.error ahead.1))

pub returns-then-column-eq2-clause-added : goal.returns-then-column-eq2-clause-added
returns-then-column-eq2-clause-added g c = λ list texts_are list_bytes bytes e.
    let at = c.loop-column in
    let ahead = at.invariant.ahead list texts_are list_bytes bytes e in
    let none = header_none _ _ c.in_ok-header.field-0 c.in_ok-header.ensures.taken c.in_default.is ahead.0 ahead.1 in
    recoding_none c.args.rule.only_utf8 c.args.limits list bytes ahead.0 at.column (map entry_at at.numbers.items) ahead.2 c.next_header.new.input.left none (omega (arith, c.if-column-eq2.true))

pub returns-in_default-clause-added : goal.returns-in_default-clause-added
returns-in_default-clause-added g c = λ list texts_are list_bytes bytes e.
    let at = c.loop-column in
    let ahead = at.invariant.ahead list texts_are list_bytes bytes e in
    let none = header_none _ _ c.in_ok-header.field-0 c.in_ok-header.ensures.taken c.in_default.is ahead.0 ahead.1 in
    recoding_ends c.args.rule.only_utf8 c.args.limits list bytes ahead.0 at.column (map entry_at at.numbers.items) ahead.2 c.next_header.new.input.left none (omega (arith, c.if-column-eq2.false, at.auto.column))

pub returns-in_err-add_column-clause-added : goal.returns-in_err-add_column-clause-added
returns-in_err-add_column-clause-added g c =
    let p = err_from_is_err_and c.from_residual-in_err-add_column.result c.from_residual-in_err-add_column.ensures.1 in
    let at = c.loop-column in
    let header = c.in-Some.header in
    let error = c.in_err-add_column.field-0.0 in
    rw (p.1, p.2) (λ list texts_are list_bytes bytes e.
    let ahead = at.invariant.ahead list texts_are list_bytes bytes e in
    let head = header_taken _ _ c.in_ok-header.field-0 header c.in_ok-header.ensures.taken c.in-Some.is ahead.0 ahead.1 in
    recoding_body_fails c.args.rule.only_utf8 c.args.limits list bytes ahead.0 at.column (map entry_at at.numbers.items) ahead.2 header head.0 head.2 c.add_column.new.input.left error (c.in_err-add_column.ensures.added list texts_are list_bytes head.0 head.1))

pub add_column-requires-clause-own : goal.add_column-requires-clause-own
add_column-requires-clause-own g c =
    let list = c.args.dictionary.now.texts in
    subst (λ (ns : List ℕ). AreCodes list list ns) (sym c.deref.ensures.value) c.in_ok-own.ensures.codes

pub loop-column-init : goal.loop-column-init
loop-column-init g c = record {
  reads = refl;
  ahead = λ list texts_are list_bytes bytes e. (bytes, e, recoding_begins c.args.rule.only_utf8 c.args.limits list bytes c.args.numbers.now.items c.requires.no_numbers);
}

pub loop-column-preserved : goal.loop-column-preserved
loop-column-preserved g c =
    let at = c.loop-column in
    record {
      reads = omega (arith, c.in_ok-add_column.ensures.reads, c.in_ok-header.ensures.reads, at.invariant.reads);
      ahead = λ list texts_are list_bytes bytes e.
          let ahead = at.invariant.ahead list texts_are list_bytes bytes e in
          let header = c.in-Some.header in
          let head = header_taken _ _ c.in_ok-header.field-0 header c.in_ok-header.ensures.taken c.in-Some.is ahead.0 ahead.1 in
          let added = c.in_ok-add_column.ensures.added list texts_are list_bytes head.0 head.1 in
          (added.2, added.5, recoding_push c.args.rule.only_utf8 c.args.limits list bytes ahead.0 at.column (map entry_at at.numbers.items) ahead.2 header head.0 head.2 added.0 added.1 added.2 (map entry_at c.add_column.new.numbers.items) added.3 added.4 added.6 added.7);
    }

pub returns-clause-added : goal.returns-clause-added
returns-clause-added g c = λ list texts_are list_bytes bytes e.
    let at = c.loop-column in
    let ahead = at.invariant.ahead list texts_are list_bytes bytes e in
    recoding_many c.args.rule.only_utf8 c.args.limits list bytes ahead.0 at.column (map entry_at at.numbers.items) ahead.2 at.input.left (omega (arith, c.loop-column-test.false))
