use Rattle.std.proofs.Common.{◌∙◌, ap, sym}
use Rattle.lasso_input.proofs.LineTexts.{other_is_escaped, own_is_text}
use Rattle.lasso_input.specs.Texts.{escaped}
use Rattle.lasso_input.proofs.escaping.text_of.Goals as goal

pub returns-in-Some-clause-text : goal.returns-in-Some-clause-text
returns-in-Some-clause-text g c = c.in-Some.ensures.0 ∙ sym (own_is_text c.args.line.now c.in-Some.ensures.1)

pub returns-in_ok-escape-in-None-clause-text : goal.returns-in_ok-escape-in-None-clause-text
returns-in_ok-escape-in-None-clause-text g c =
    c.in_ok-escape-in-None.ensures ∙ ap escaped c.bytes.ensures ∙ sym (other_is_escaped c.args.line.now c.in-None.ensures)
