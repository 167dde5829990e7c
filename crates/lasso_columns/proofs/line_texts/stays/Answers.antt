use Rattle.std.proofs.Common.{◌∙◌, sym}
use Rattle.std.proofs.lemmas.Bool.{not-false, not-true}
use Rattle.lasso_input.proofs.LineTexts.{other_is_escaped}
use Rattle.lasso_columns.proofs.TextLines.{other_text, own_text_by, refused_text}
use Rattle.lasso_columns.proofs.line_texts.stays.Goals as goal

pub returns-in-Some-clause-line : goal.returns-in-Some-clause-line
returns-in-Some-clause-line c = λ same. own_text_by c.args.only_utf8 c.args.line.now c.in-Some.ensures.1

pub returns-in-None-clause-line : goal.returns-in-None-clause-line
returns-in-None-clause-line c = λ same. refused_text c.args.only_utf8 c.args.line.now (sym c.is_let_in.ensures ∙ not-true c.is_let_in.result same)

pub returns-in-None-clause-text : goal.returns-in-None-clause-text
returns-in-None-clause-text c = λ other.
    other_text c.args.only_utf8 c.args.line.now (sym c.is_let_in.ensures ∙ not-false c.is_let_in.result other) ∙ other_is_escaped c.args.line.now c.in-None.ensures
