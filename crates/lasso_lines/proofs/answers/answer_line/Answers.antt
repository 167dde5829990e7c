use Rattle.std.proofs.Common.{ℕ, List, [], ◌∷◌, ◌++◌, refl, subst}
use Rattle.std.specs.Prelude.{decimal}
use Rattle.lasso_lines.specs.Answer.{WritesAll, faulty}
use Rattle.lasso_lines.specs.Report.{held_by}
use Rattle.lasso_lines.proofs.Known.{nothing_more, grows_as, write_fault}
use Rattle.lasso_lines.proofs.Lines.{not_text, refused_line, answered_line}
use Rattle.lasso_lines.proofs.answers.answer_line.Goals as goal

pub returns-in_default-clause-answers : goal.returns-in_default-clause-answers
returns-in_default-clause-answers g c =
    let before = held_by c.args.rodeo.now in
    nothing_more _ _ (faulty _ (not_text before c.args.number c.args.line.now c.in_default.ensures) refl)

pub returns-in-Ok-intern_next-clause-answers :
    goal.returns-in-Ok-intern_next-clause-answers
returns-in-Ok-intern_next-clause-answers g c =
    let before = held_by c.args.rodeo.now in
    let after = held_by c.intern_next.new.rodeo in
    grows_as _ _ _ _ c.write_answer.ensures.bytes (λ part wrote.
    answered_line c.args.rodeo.now.first before after c.args.number c.args.line.now c.in-Ok.text.now c.into_usize.result c.in-Ok-intern_next.key c.write_answer.result c.requires.first c.in-Ok.ensures c.in-Ok-intern_next.ensures.0 c.into_usize.ensures part
    (subst (λ (l : List ℕ). WritesAll (decimal c.into_usize.result ++ (32 ∷ (l ++ 10 ∷ []))) c.write_answer.result part) c.bytes.ensures wrote))

pub returns-in-Ok-intern_next-clause-faults :
    goal.returns-in-Ok-intern_next-clause-faults
returns-in-Ok-intern_next-clause-faults g c = write_fault _ c.write_answer.ensures.faults

pub returns-in-Err-clause-answers : goal.returns-in-Err-clause-answers
returns-in-Err-clause-answers g c =
    let before = held_by c.args.rodeo.now in
    nothing_more _ _ (refused_line c.args.rodeo.now.first before c.args.number c.args.line.now c.in-Ok.text.now c.in-Err.error _ _ c.requires.first c.in-Ok.ensures c.in-Err.ensures.0.2)
