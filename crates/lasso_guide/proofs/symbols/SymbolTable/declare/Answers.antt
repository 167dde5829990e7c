-- What the intern call of the names says: its key resolves to the name, and each name from before stays.
use Rattle.lasso.proofs.Calling.{answer_resolves, texts_stay}
use Rattle.lasso_guide.proofs.symbols.SymbolTable.declare.Goals as goal

pub returns-clause-named : goal.returns-clause-named
returns-clause-named g c =
    answer_resolves g.K.Key.key_at g.K.Key.number (λ n k e. (g.met.K.Key.made n k e).2) _ _ c.args.name.now _ c.try_get_or_intern.ensures.all

pub returns-clause-kept : goal.returns-clause-kept
returns-clause-kept g c = texts_stay g.K.Key.key_at _ _ c.args.name.now _ c.try_get_or_intern.ensures.all
