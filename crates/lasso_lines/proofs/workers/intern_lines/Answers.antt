use Rattle.std.proofs.Common.{List, ap, subst}
use Rattle.std.specs.Prelude.{IfErr, IfOk}
use Rattle.std.proofs.lemmas.Result.{err_from_is_err_and}
use Rattle.lasso_parts.specs.Texts.{Text}
use Rattle.lasso_input.specs.Lines.{lines_of}
use Rattle.lasso_log.specs.Views.{list_of, seen}
use Rattle.lasso_lines.specs.LineFaults.{AreTexts, IsFaultOf}
use Rattle.lasso_lines.specs.Shares.{AreCodesOf, IsRefusalOf}
use Rattle.lasso_lines.proofs.Explaining.{text_explained, share_explained}
use Rattle.lasso_lines.proofs.FirstFaults.{share_fault_is}
use Rattle.lasso_lines.proofs.workers.intern_lines.Goals as goal

pub returns-clause-codes : goal.returns-clause-codes
returns-clause-codes g c =
    let list = list_of c.args.rodeo.now c.share_out.new.pass.notes in
    let lines = ap lines_of c.new-lines.ensures in
    subst (λ (ls : List Text). IfOk c.share_out.result (λ codes. AreCodesOf list ls codes.items)) lines c.share_out.ensures.codes

-- a line is not UTF-8
pub returns-in_err-test_lines-clause-refused : goal.returns-in_err-test_lines-clause-refused
returns-in_err-test_lines-clause-refused g c =
    let p = err_from_is_err_and c.from_residual.result c.from_residual.ensures.1 in
    rw (p.1, p.2) (text_explained c.args.rodeo.now.opening (seen c.args.pass.now) (lines_of c.args.input.now) _ c.in_err-test_lines.ensures.faults)

pub returns-in_err-test_lines-clause-told : goal.returns-in_err-test_lines-clause-told
returns-in_err-test_lines-clause-told g c =
    let p = err_from_is_err_and c.from_residual.result c.from_residual.ensures.1 in
    rw (p.1, p.2) (subst (λ (ls : List Text). IsFaultOf ls c.in_err-test_lines.field-0.0) (ap lines_of c.new-lines.ensures) c.in_err-test_lines.ensures.told)

-- a line is refused
pub returns-clause-told : goal.returns-clause-told
returns-clause-told g c =
    let of = c.args.rodeo.now in
    let past = seen c.share_out.new.pass in
    let lines = ap lines_of c.new-lines.ensures in
    let why = subst (λ (ls : List Text). IfErr c.share_out.result (IsRefusalOf of.opening past ls)) lines c.share_out.ensures.refused in
    let texts = subst AreTexts lines c.in_ok-test_lines.ensures.texts in
    share_fault_is of.opening past (lines_of c.args.input.now) c.share_out.result texts why

pub returns-clause-refused : goal.returns-clause-refused
returns-clause-refused g c =
    let of = c.args.rodeo.now in
    let past = seen c.share_out.new.pass in
    let lines = ap lines_of c.new-lines.ensures in
    let why = subst (λ (ls : List Text). IfErr c.share_out.result (IsRefusalOf of.opening past ls)) lines c.share_out.ensures.refused in
    share_explained of.opening past (lines_of c.args.input.now) c.share_out.result why
