use Rattle.std.proofs.Common.{◌∙◌, ap, refl, sym}
use Rattle.lasso_input.proofs.LineTexts.{other_is_escaped}
use Rattle.lasso_input.specs.Texts.{escaped}
use Rattle.lasso_codes.proofs.lines.made_text.Goals as goal

pub returns-in-Ok : goal.returns-in-Ok
returns-in-Ok c = (
  (c.requires.bytes, sym c.is_let_in.ensures ∙ c.if-not-is_let_in.false),
  c.in-Ok.ensures ∙ ap escaped c.bytes.ensures ∙ sym (other_is_escaped c.args.line.now c.requires.other),
)

pub returns-in-Err : goal.returns-in-Err
returns-in-Err c = (refl, (c.requires.bytes, sym c.is_let_in.ensures ∙ c.if-not-is_let_in.false), c.new-error.ensures, c.requires.other)
