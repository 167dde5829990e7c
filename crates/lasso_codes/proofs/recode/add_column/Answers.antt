use Rattle.std.proofs.Common.{ℕ, ◌≡◌, ◌∙◌, ◌^◌, ◌<◌, List, [], length, sym, subst, arith}
use Rattle.std.specs.Prelude.{All, IsSome}
use Rattle.std.proofs.lemmas.List.Elements.{All-nil}
use Rattle.std.proofs.lemmas.Result.{err_from_is_err_and}
use Rattle.hex.specs.Hex.{IsBytes}
use Rattle.lasso_parts.specs.Texts.{Text, position_of}
use Rattle.lasso_single.specs.Codes.{AreCodes}
use Rattle.lasso_codes.specs.Limits.{line_texts}
use Rattle.lasso_codes.specs.Recode.{texts_or, HasAll, IsFindFailure}
use Rattle.lasso_codes.proofs.Items.{admitted_list}
use Rattle.lasso_codes.proofs.RecodedColumns.{body_find_fails, body_result, body_texts_fail, body_unmade, has_coded, no_texts, own_texts}
use Rattle.lasso_codes.proofs.recode.add_column.Goals as goal

-- the column has no texts: its entries are codes of the dictionary
pub returns-then-header-eq0-clause-added : goal.returns-then-header-eq0-clause-added
returns-then-header-eq0-clause-added g c = λ list texts_are list_bytes bytes e.
    let header = c.args.header in
    let none : header.distinct ≡ 0 = omega (arith, c.if-header-eq0.true) in
    let codes = subst (λ (ts : List Text). AreCodes ts ts c.args.own.now) texts_are c.requires.own in
    let few = subst (λ (ts : List Text). length ts < 2 ^ 32) texts_are c.requires.few in
    body_result c.args.rule.only_utf8 c.args.limits list header bytes c.args.column [] bytes (no_texts c.args.rule.only_utf8 c.args.limits header bytes none) (All-nil (λ t. IsSome (position_of list t))) list_bytes list_bytes
    c.add_numbers.new.input.left c.args.numbers.now.items c.add_numbers.new.numbers.items c.add_numbers.result (c.add_numbers.ensures.added (line_texts list) (line_texts list) codes few bytes e)

pub returns-in_err-texts-clause-added : goal.returns-in_err-texts-clause-added
returns-in_err-texts-clause-added g c =
    let p = err_from_is_err_and c.from_residual.result c.from_residual.ensures.1 in
    let error = c.in_err-texts.field-0.0 in
    rw (p.1, p.2) (λ list texts_are list_bytes bytes e.
    body_unmade c.args.rule.only_utf8 c.args.limits list c.args.header bytes c.args.column c.args.input.now.left error c.in_err-texts.ensures.refused)

pub returns-in_err-read_texts-clause-added : goal.returns-in_err-read_texts-clause-added
returns-in_err-read_texts-clause-added g c =
    let p = err_from_is_err_and c.from_residual-in_err-read_texts.result c.from_residual-in_err-read_texts.ensures.1 in
    let error = c.in_err-read_texts.field-0.0 in
    rw (p.1, p.2) (λ list texts_are list_bytes bytes e.
    body_texts_fail c.args.rule.only_utf8 c.args.limits list c.args.header bytes c.args.column c.read_texts.new.input.left error (c.in_err-read_texts.ensures.error bytes e c.args.limits c.in_ok-texts.ensures.made))

pub returns-in_err-table-clause-added : goal.returns-in_err-table-clause-added
returns-in_err-table-clause-added g c =
    let p = err_from_is_err_and c.from_residual-in_err-table.result c.from_residual-in_err-table.ensures.1 in
    let error = c.in_err-table.field-0.0 in
    rw (p.1, p.2) (λ list texts_are list_bytes bytes e.
    let texts = c.in_ok-read_texts.ensures.taken bytes e in
    let admitted = admitted_list c.args.limits c.in_ok-texts.texts c.read_texts.new.rodeo texts.2.0 texts.2.3 c.in_ok-texts.ensures.made c.in_ok-read_texts.ensures.list in
    let failed = subst (λ (ts : List Text). IsFindFailure ts (line_texts texts.2.0) c.args.column error) texts_are (subst (λ (ts : List Text). IsFindFailure c.args.dictionary.now.texts ts c.args.column error) (c.into_reader.ensures ∙ texts.2.3) c.in_err-table.ensures) in
    body_find_fails c.args.rule.only_utf8 c.args.limits list c.args.header bytes c.args.column texts.2.0 texts.0 (texts.2.1, admitted) c.read_texts.new.input.left error list_bytes texts.2.2 failed)

pub returns-clause-added : goal.returns-clause-added
returns-clause-added g c = λ list texts_are list_bytes bytes e.
    let only = c.args.rule.only_utf8 in
    let header = c.args.header in
    let texts = c.in_ok-read_texts.ensures.taken bytes e in
    let own = texts.2.0 in
    let admitted = admitted_list c.args.limits c.in_ok-texts.texts c.read_texts.new.rodeo own texts.2.3 c.in_ok-texts.ensures.made c.in_ok-read_texts.ensures.list in
    let table = c.in_ok-table.table in
    let some : 0 < header.distinct = omega (arith, c.if-header-eq0.false) in
    let same : texts_or list own ≡ own = own_texts only list own header.distinct bytes texts.0 texts.2.1 some in
    let found = subst (λ (ts : List Text). AreCodes ts (line_texts own) table.items) texts_are (subst (λ (ts : List Text). AreCodes c.args.dictionary.now.texts ts table.items) (c.into_reader.ensures ∙ texts.2.3) c.in_ok-table.ensures) in
    let all : HasAll list own = has_coded list own table.items list_bytes texts.2.2 found in
    let codes = subst (λ (ts : List Text). AreCodes (line_texts list) (line_texts ts) c.deref.result.now) (sym same) (subst (λ ns. AreCodes (line_texts list) (line_texts own) ns) (sym c.deref.ensures.value) found) in
    let few = subst (λ (ts : List Text). length ts < 2 ^ 32) texts_are c.requires.few in
    body_result only c.args.limits list header bytes c.args.column own texts.0 (texts.2.1, admitted) all list_bytes (subst (All IsBytes) (sym same) texts.2.2)
    c.add_numbers-2.new.input.left c.args.numbers.now.items c.add_numbers-2.new.numbers.items c.add_numbers-2.result (c.add_numbers-2.ensures.added (line_texts list) (line_texts (texts_or list own)) codes few texts.0 texts.1)
