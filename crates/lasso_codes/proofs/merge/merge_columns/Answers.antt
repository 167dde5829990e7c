use Rattle.std.proofs.Common.{ℕ, ◌∙◌, List, take, refl, sym, subst, arith}
use Rattle.std.specs.Prelude.{IsSomeAnd, slice_get}
use Rattle.std.proofs.lemmas.Result.{err_from_is_err_and}
use Rattle.lasso_parts.specs.Texts.{Text}
use Rattle.lasso_single.specs.Filling.{extend}
use Rattle.lasso_single.proofs.Filled.{accepted}
use Rattle.lasso_single.specs.Codes.{AreCodes}
use Rattle.lasso_single.specs.Coding.{spur_at, IsRefused}
use Rattle.lasso_codes.specs.Limits.{line_texts}
use Rattle.lasso_codes.proofs.Items.{header_taken, header_none, header_unread, admitted_list}
use Rattle.lasso_codes.proofs.MergedColumns.{merging_begins, merging_ends, merging_many, merging_header_fails, merging_unmade, merging_texts_fail, merging_refused, merged_few, merging_push, merging_entries_fail}
use Rattle.lasso_codes.proofs.merge.merge_columns.Goals as goal

pub returns-in_err-header-clause-error : goal.returns-in_err-header-clause-error
returns-in_err-header-clause-error g c =
    let p = err_from_is_err_and c.from_residual.result c.from_residual.ensures.1 in
    let at = c.loop-column in
    let error = c.in_err-header.field-0.0 in
    rw (p.1, p.2) (λ bytes e.
    let ahead = at.invariant.ahead bytes e in
    merging_header_fails c.args.rule.only_utf8 bytes ahead.0 c.args.limits at.column at.rodeo at.numbers.items ahead.2 c.next_header.new.input.left error (header_unread _ _ at.column error ahead.0 c.in_err-header.ensures.error ahead.1))

pub returns-in_default-clause-merged : goal.returns-in_default-clause-merged
returns-in_default-clause-merged g c = λ bytes e.
    let at = c.loop-column in
    let ahead = at.invariant.ahead bytes e in
    merging_ends c.args.rule.only_utf8 bytes ahead.0 c.args.limits at.column at.rodeo at.numbers.items ahead.2 (header_none _ _ c.in_ok-header.field-0 c.in_ok-header.ensures.taken c.in_default.is ahead.0 ahead.1)

pub returns-in_err-texts-clause-error : goal.returns-in_err-texts-clause-error
returns-in_err-texts-clause-error g c =
    let p = err_from_is_err_and c.from_residual-in_err-texts.result c.from_residual-in_err-texts.ensures.1 in
    let at = c.loop-column in
    let error = c.in_err-texts.field-0.0 in
    rw (p.1, p.2) (λ bytes e.
    let ahead = at.invariant.ahead bytes e in
    merging_unmade c.args.rule.only_utf8 bytes ahead.0 c.args.limits at.column at.rodeo at.numbers.items ahead.2 c.next_header.new.input.left error c.in_err-texts.ensures.refused)

pub returns-in_err-read_texts-clause-error : goal.returns-in_err-read_texts-clause-error
returns-in_err-read_texts-clause-error g c =
    let p = err_from_is_err_and c.from_residual-in_err-read_texts.result c.from_residual-in_err-read_texts.ensures.1 in
    let at = c.loop-column in
    let header = c.in-Some.header in
    let error = c.in_err-read_texts.field-0.0 in
    rw (p.1, p.2) (λ bytes e.
    let ahead = at.invariant.ahead bytes e in
    let head = header_taken _ _ c.in_ok-header.field-0 header c.in_ok-header.ensures.taken c.in-Some.is ahead.0 ahead.1 in
    merging_texts_fail c.args.rule.only_utf8 bytes ahead.0 c.args.limits at.column at.rodeo at.numbers.items ahead.2 header head.0 head.2 c.read_texts.new.input.left error (c.in_err-read_texts.ensures.error head.0 head.1 c.args.limits c.in_ok-texts.ensures.made))

pub returns-in-Err-clause-error : goal.returns-in-Err-clause-error
returns-in-Err-clause-error g c = λ bytes e.
    let at = c.loop-column in
    let ahead = at.invariant.ahead bytes e in
    let header = c.in-Some.header in
    let head = header_taken _ _ c.in_ok-header.field-0 header c.in_ok-header.ensures.taken c.in-Some.is ahead.0 ahead.1 in
    let texts = c.in_ok-read_texts.ensures.taken head.0 head.1 in
    let list = texts.2.0 in
    let admitted = admitted_list c.args.limits c.in_ok-texts.texts c.read_texts.new.rodeo list texts.2.3 c.in_ok-texts.ensures.made c.in_ok-read_texts.ensures.list in
    let after = c.merge.new.into in
    let error = c.in-Err.error in
    let refused = subst (λ (ts : List Text). (n : ℕ) × extend spur_at at.rodeo (take n ts) accepted after × IsSomeAnd (slice_get ts n) (λ text. IsRefused after text error)) (c.into_reader.ensures ∙ texts.2.3) c.in-Err.ensures.refused in
    merging_refused c.args.rule.only_utf8 bytes ahead.0 c.args.limits at.column at.rodeo at.numbers.items ahead.2 header head.0 head.2 list texts.0 texts.2.1 admitted c.read_texts.new.input.left error refused.0 after refused.1 refused.2

pub returns-in_err-add_numbers-in-Ok-clause-error : goal.returns-in_err-add_numbers-in-Ok-clause-error
returns-in_err-add_numbers-in-Ok-clause-error g c =
    let p = err_from_is_err_and c.from_residual-in_err-add_numbers-in-Ok.result c.from_residual-in_err-add_numbers-in-Ok.ensures.1 in
    let at = c.loop-column in
    let header = c.in-Some.header in
    let after = c.merge.new.into in
    let error = c.in_err-add_numbers-in-Ok.field-0.0 in
    rw (p.1, p.2) (λ bytes e.
    let ahead = at.invariant.ahead bytes e in
    let head = header_taken _ _ c.in_ok-header.field-0 header c.in_ok-header.ensures.taken c.in-Some.is ahead.0 ahead.1 in
    let texts = c.in_ok-read_texts.ensures.taken head.0 head.1 in
    let list = texts.2.0 in
    let reader_is = c.into_reader.ensures ∙ texts.2.3 in
    let merged = subst (λ (ts : List Text). extend spur_at at.rodeo ts accepted after) reader_is c.in-Ok.ensures.list in
    let codes = subst (λ ns. AreCodes after.texts (line_texts list) ns) (sym c.deref.ensures.value) (subst (λ (ts : List Text). AreCodes after.texts ts c.in-Ok.table.items) reader_is c.in-Ok.ensures.codes) in
    let admitted = admitted_list c.args.limits c.in_ok-texts.texts c.read_texts.new.rodeo list texts.2.3 c.in_ok-texts.ensures.made c.in_ok-read_texts.ensures.list in
    let few = merged_few c.args.rule.only_utf8 bytes ahead.0 c.args.limits at.column at.rodeo at.numbers.items ahead.2 header head.0 head.2 list texts.0 texts.2.1 admitted texts.2.2 after merged in
    let added = c.in_err-add_numbers-in-Ok.ensures.added after.texts (line_texts list) codes few texts.0 texts.1 in
    merging_entries_fail c.args.rule.only_utf8 bytes ahead.0 c.args.limits at.column at.rodeo at.numbers.items ahead.2 header head.0 head.2 list texts.0 texts.2.1 admitted texts.2.2 after merged c.add_numbers.new.input.left error added.0 added.1)

pub loop-column-init : goal.loop-column-init
loop-column-init g c = record {
  reads = refl;
  ahead = λ bytes e. (bytes, e, merging_begins c.args.rule.only_utf8 bytes c.args.limits c.args.rodeo.now c.args.numbers.now.items c.requires.made c.requires.no_numbers);
}

pub loop-column-preserved : goal.loop-column-preserved
loop-column-preserved g c =
    let at = c.loop-column in
    record {
      reads = omega (arith, c.in_ok-add_numbers-in-Ok.ensures.reads, c.in_ok-read_texts.ensures.reads, c.in_ok-header.ensures.reads, at.invariant.reads);
      ahead = λ bytes e.
          let ahead = at.invariant.ahead bytes e in
          let header = c.in-Some.header in
          let after = c.merge.new.into in
          let head = header_taken _ _ c.in_ok-header.field-0 header c.in_ok-header.ensures.taken c.in-Some.is ahead.0 ahead.1 in
          let texts = c.in_ok-read_texts.ensures.taken head.0 head.1 in
          let list = texts.2.0 in
          let reader_is = c.into_reader.ensures ∙ texts.2.3 in
          let merged = subst (λ (ts : List Text). extend spur_at at.rodeo ts accepted after) reader_is c.in-Ok.ensures.list in
          let codes = subst (λ ns. AreCodes after.texts (line_texts list) ns) (sym c.deref.ensures.value) (subst (λ (ts : List Text). AreCodes after.texts ts c.in-Ok.table.items) reader_is c.in-Ok.ensures.codes) in
          let admitted = admitted_list c.args.limits c.in_ok-texts.texts c.read_texts.new.rodeo list texts.2.3 c.in_ok-texts.ensures.made c.in_ok-read_texts.ensures.list in
          let few = merged_few c.args.rule.only_utf8 bytes ahead.0 c.args.limits at.column at.rodeo at.numbers.items ahead.2 header head.0 head.2 list texts.0 texts.2.1 admitted texts.2.2 after merged in
          let added = c.in_ok-add_numbers-in-Ok.ensures.added after.texts (line_texts list) codes few texts.0 texts.1 in
          (added.0, added.1, merging_push c.args.rule.only_utf8 bytes ahead.0 c.args.limits at.column at.rodeo at.numbers.items ahead.2 header head.0 head.2 list texts.0 texts.2.1 admitted texts.2.2 after merged added.0 c.add_numbers.new.numbers.items added.2 added.3);
    }

pub returns-clause-error : goal.returns-clause-error
returns-clause-error g c = λ bytes e.
    let at = c.loop-column in
    let ahead = at.invariant.ahead bytes e in
    merging_many c.args.rule.only_utf8 bytes ahead.0 c.args.limits at.column at.rodeo at.numbers.items ahead.2 at.input.left (omega (arith, c.loop-column-test.false))
