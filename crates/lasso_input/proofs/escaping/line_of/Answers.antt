use Rattle.std.proofs.Common.{◌≡◌, ◌∙◌, false, sym}
use Rattle.lasso_input.proofs.LineTexts.{unmarked_is_line}
use Rattle.lasso_input.specs.Texts.{is_marked}
use Rattle.lasso_input.proofs.escaping.line_of.Goals as goal

pub returns-then-not-is_marked-clause-line : goal.returns-then-not-is_marked-clause-line
returns-then-not-is_marked-clause-line g c =
    let unmarked : is_marked c.args.text.now ≡ false = cc in
    c.as_bytes-bytes.ensures.value ∙ sym (unmarked_is_line c.args.text.now unmarked)
