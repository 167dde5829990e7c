use Rattle.std.proofs.Common.{ap, sym, ◌∙◌}
use Rattle.lasso_input.specs.Lines.{lines_of}
use Rattle.lasso_lines.specs.LineFaults.{first_not_text}
use Rattle.lasso_lines.proofs.FirstFaults.{after_text, at_not_text}
use Rattle.lasso_lines.proofs.WholeTexts.{whole_texts}
use Rattle.lasso_lines.proofs.cutting.test_lines.Goals as goal

pub loop-line-preserved : goal.loop-line-preserved
loop-line-preserved g c =
    let rest = lines_of c.next_line.new.self in
    c.loop-line.invariant ∙ ap (first_not_text c.loop-line.number) c.in-Some.ensures.lines ∙ after_text c.loop-line.number c.in-Some.line rest c.in-Ok.ensures.1
    ∙ ap (λ n. first_not_text n rest) (sym c.next_number-number.ensures)

pub returns-then-is_text-clause-texts : goal.returns-then-is_text-clause-texts
returns-then-is_text-clause-texts g c = whole_texts c.args.input.now 1 (c.is_text.ensures c.if-is_text.true)

pub returns-in_default-text-clause-told : goal.returns-in_default-text-clause-told
returns-in_default-text-clause-told g c =
    c.loop-line.invariant ∙ ap (first_not_text c.loop-line.number) c.in-Some.ensures.lines
    ∙ at_not_text c.loop-line.number c.in-Some.line (lines_of c.next_line.new.self) c.in_default-text.ensures
