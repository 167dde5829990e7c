use Rattle.std.proofs.Common.{sym, ◌∙◌}
use Rattle.lasso_input.proofs.LineTexts.{other_by_bytes, other_by_mark, own_by_parts}
use Rattle.lasso_input.proofs.escaping.own_text.Goals as goal

pub returns-in_default : goal.returns-in_default
returns-in_default c = other_by_bytes c.args.line.now c.in_default.ensures

pub returns-then-begins_with_mark : goal.returns-then-begins_with_mark
returns-then-begins_with_mark c = other_by_mark c.args.line.now (sym c.begins_with_mark.ensures ∙ c.if-begins_with_mark.true)

pub returns : goal.returns
returns c = (c.in-Ok.ensures.0, own_by_parts c.args.line.now c.in-Ok.ensures.1 (sym c.begins_with_mark.ensures ∙ c.if-begins_with_mark.false))
