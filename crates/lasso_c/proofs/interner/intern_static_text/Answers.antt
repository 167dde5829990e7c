use Rattle.std.proofs.Common.{List, sym, ap, ◌∙◌}
use Rattle.lasso_parts.specs.Texts.{Text, position_of}
use Rattle.lasso_c.specs.Encoding.{with_new}
use Rattle.lasso_c.proofs.StaticFacts.{grown_static, static_code_found}
use Rattle.lasso_c.proofs.interner.intern_static_text.Goals as goal

pub returns-in-Ok-clause-code : goal.returns-in-Ok-clause-code
returns-in-Ok-clause-code c =
    let old = c.in-Some-interner.interner.now.rodeo in let given = c.args.text.now in let text = c.in-Some.text.now in
    λ _. ap (λ (ts : List Text). position_of ts given) (grown_static old c.static_code_in.new.dictionary text c.in-Ok.found c.in-Ok.ensures)
    ∙ ap (λ (t : Text). position_of (with_new old.texts text) t) (sym c.in-Some.ensures.text) ∙ static_code_found old c.static_code_in.new.dictionary text c.in-Ok.found c.in-Ok.ensures
