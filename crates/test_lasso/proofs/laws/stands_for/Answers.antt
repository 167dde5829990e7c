-- The key that `get` found is the text's key, so it resolves to the text.
use Rattle.std.proofs.Common.{◌∙◌}
use Rattle.lasso.proofs.Interned.{key_resolves, if_some_map}
use Rattle.test_lasso.proofs.laws.stands_for.Goals as goal

pub returns-then-is_key : goal.returns-then-is_key
returns-then-is_key g c =
    if_some_map _ _ (g.T.Resolver.meaning c.args.reader.now)
    (λ texts found is. c.is_text.ensures.1 (found ∙ key_resolves g.K.Key.key_at g.K.Key.number (λ n k e. (g.met.K.Key.made n k e).2) texts c.args.text.now c.args.key is))
    c.try_resolve.ensures
