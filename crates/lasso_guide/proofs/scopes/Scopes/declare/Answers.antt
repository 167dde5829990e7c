-- The name's key resolves to it, and each name from before stays.
use Rattle.std.proofs.Common.{◌∷◌, ◌++◌, [], Ok, ap, ◌∙◌}
use Rattle.lasso.proofs.Calling.{answer_resolves, texts_stay}
use Rattle.lasso_guide.specs.Scopes.{names_of}
use Rattle.lasso_guide.proofs.Naming.{names_declared}
use Rattle.lasso_guide.proofs.scopes.Scopes.declare.Goals as goal

pub returns-clause-declared : goal.returns-clause-declared
returns-clause-declared g c =
    let number = g.K.Key.number in
    let name = c.args.name.now in
    let variable = c.in_ok-variable.variable in
    let told = c.in_ok-variable.ensures.all in
    let now = c.args.self.now in
    let later = c.try_get_or_intern.new.self in
    ap (names_of number later.texts) (c.push_reserved.ensures.items ∙ ap (λ vs. vs ++ variable ∷ []) c.reserve.ensures.items)
    ∙ names_declared number now.names.texts later.texts now.variables.items variable name
    (texts_stay g.K.Key.key_at now.names later name (Ok variable) told)
    now.named
    (answer_resolves g.K.Key.key_at number (λ n k e. (g.met.K.Key.made n k e).2) now.names later name (Ok variable) told)
