use Rattle.std.proofs.Common.{List, sym, ap, ◌∙◌}
use Rattle.lasso_parts.specs.Texts.{Text, position_of}
use Rattle.lasso_c.specs.Encoding.{with_new}
use Rattle.lasso_c.proofs.LayoutSteps.{code_found, grown}
use Rattle.lasso_c.proofs.interner.intern_text.Goals as goal

pub returns-in-Ok-clause-code : goal.returns-in-Ok-clause-code
returns-in-Ok-clause-code c =
    let old = c.in-Some-interner.interner.now.rodeo in let given = c.args.text.now in let text = c.in-Some.text.now in
    λ _. ap (λ (ts : List Text). position_of ts given) (grown 0 old c.code_in.new.dictionary text c.in-Ok.found c.in-Ok.ensures)
    ∙ ap (λ (t : Text). position_of (with_new old.texts text) t) (sym c.in-Some.ensures.text) ∙ code_found 0 old c.code_in.new.dictionary text c.in-Ok.found c.in-Ok.ensures
