use Rattle.std.proofs.Common.{◌≡◌, ap, refl, arith}
use Rattle.std.proofs.lemmas.Result.{err_from_is_err_and}
use Rattle.lasso_codes.specs.Reading.{head_of}
use Rattle.lasso_codes.proofs.Items.{admitted_list, header_taken, header_none, header_unread}
use Rattle.lasso_codes.proofs.RecodedColumns.{dictionary_header_fails, dictionary_texts_fail}
use Rattle.lasso_codes.proofs.recode.read_dictionary.Goals as goal

pub returns-in_err-header-clause-error : goal.returns-in_err-header-clause-error
returns-in_err-header-clause-error g c =
    let p = err_from_is_err_and c.from_residual.result c.from_residual.ensures.1 in
    let error = c.in_err-header.field-0.0 in
    rw (p.1, p.2) (λ bytes e limit made.
    dictionary_header_fails c.args.rule.only_utf8 limit bytes c.next_header.new.input.left error (header_unread _ _ 1 error bytes c.in_err-header.ensures.error e))

pub returns-in_default-clause-error : goal.returns-in_default-clause-error
returns-in_default-clause-error g c = λ bytes e limit made.
    let none = header_none _ _ c.in_ok-header.field-0 c.in_ok-header.ensures.taken c.in_default.is bytes e in
    (refl, ap head_of none)

pub returns-then-header-gt0-clause-error : goal.returns-then-header-gt0-clause-error
returns-then-header-gt0-clause-error g c = λ bytes e limit made.
    let header = c.in-Some.header in
    let head = header_taken _ _ c.in_ok-header.field-0 header c.in_ok-header.ensures.taken c.in-Some.is bytes e in
    (refl, (header, head.0, head.2, omega (arith, c.if-header-gt0.true)))

pub returns-in_err-read_texts-clause-error : goal.returns-in_err-read_texts-clause-error
returns-in_err-read_texts-clause-error g c =
    let p = err_from_is_err_and c.from_residual-in_err-read_texts.result c.from_residual-in_err-read_texts.ensures.1 in
    let error = c.in_err-read_texts.field-0.0 in
    rw (p.1, p.2) (λ bytes e limit made.
    let header = c.in-Some.header in
    let head = header_taken _ _ c.in_ok-header.field-0 header c.in_ok-header.ensures.taken c.in-Some.is bytes e in
    let none : header.lines ≡ 0 = omega (arith, c.if-header-gt0.false) in
    dictionary_texts_fail c.args.rule.only_utf8 limit bytes head.0 header head.2 none c.read_texts.new.input.left error (c.in_err-read_texts.ensures.error head.0 head.1 limit made))

pub returns-clause-taken : goal.returns-clause-taken
returns-clause-taken g c = λ bytes e limit made.
    let header = c.in-Some.header in
    let head = header_taken _ _ c.in_ok-header.field-0 header c.in_ok-header.ensures.taken c.in-Some.is bytes e in
    let texts = c.in_ok-read_texts.ensures.taken head.0 head.1 in
    let none : header.lines ≡ 0 = omega (arith, c.if-header-gt0.false) in
    let admitted = admitted_list limit c.args.rodeo.now c.read_texts.new.rodeo texts.2.0 texts.2.3 made c.in_ok-read_texts.ensures.list in
    (texts.2.0, texts.0, texts.1, (header, head.0, head.2, none, texts.2.1, admitted), texts.2.2, texts.2.3)
