use Rattle.std.proofs.Common.{◌≡◌, ◌<◌, ◌∷◌, [], length, sym, ap, subst, ◌∙◌, arith}
use Rattle.std.proofs.lemmas.Grind.{common_steps}
use Rattle.lasso_input.specs.Lines.{NoFeed, lines_of}
use Rattle.lasso_input.proofs.FirstLines.{lines_alone, lines_cut}
use Rattle.lasso_input.proofs.stretch.Stretch.next_line.Goals as goal

pub returns-in-Some-clause-lines : goal.returns-in-Some-clause-lines
returns-in-Some-clause-lines c = let cut = c.in-Some.ensures.line in ap lines_of cut.1 ∙ lines_cut _ _ cut.0

pub returns-clause-lines : goal.returns-clause-lines
returns-clause-lines c =
    let rest = c.self.inside.rest.now in
    let none = c.in_default.ensures.line in
    let same : c.args.self.now ≡ rest = sym none.1 ∙ sym c.self.view_is in
    let some : 0 < length rest = grind (arith, common_steps) in
    ap lines_of same ∙ lines_alone rest some (subst NoFeed same none.0) ∙ ap (λ bs. bs ∷ []) (sym c.tested.ensures)
