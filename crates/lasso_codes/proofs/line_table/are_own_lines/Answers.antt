use Rattle.std.proofs.Common.{false, ap, subst, sym, ◌∙◌, ◌≡◌}
use Rattle.lasso_input.specs.Texts.{is_marked}
use Rattle.lasso_input.proofs.LineTexts.{unmarked_is_line}
use Rattle.lasso_codes.proofs.LineTexts.{own_next}
use Rattle.lasso_codes.proofs.line_table.are_own_lines.Goals as goal

pub loop-position-preserved : goal.loop-position-preserved
loop-position-preserved c =
    let text = c.text_at.result.now in
    let plain : is_marked text ≡ false = ap is_marked (sym c.as_bytes.ensures.value) ∙ sym c.is_marked.ensures.value ∙ c.if-is_marked.false in
    own_next c.loop-position.position c.args.rodeo.now.texts text c.loop-position.invariant c.text_at.ensures (unmarked_is_line text plain)
