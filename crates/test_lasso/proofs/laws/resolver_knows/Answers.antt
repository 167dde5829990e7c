-- The resolver has the list that the intern left, in which the key is the text's and so resolves to it.
use Rattle.std.proofs.Common.{◌≡◌, ◌∙◌}
use Rattle.std.specs.Prelude.{slice_get, option_map}
use Rattle.lasso.specs.Interning.{with_last}
use Rattle.lasso.proofs.Interned.{key_in_frozen, key_resolves, if_some_at, if_some_map}
use Rattle.test_lasso.proofs.laws.resolver_knows.Goals as goal

pub returns-clause-known : goal.returns-clause-known
returns-clause-known g c =
    if_some_map _ _ _
    (λ texts kept.
    let resolved = key_resolves g.K.Key.key_at g.K.Key.number (λ n k e. (g.met.K.Key.made n k e).2) (with_last texts c.args.text.now) c.args.text.now c.in_ok-key.key kept.1 in
    c.is_text.ensures.1 (if_some_at (λ after. option_map (λ t. t.now) c.try_resolve.result ≡ slice_get after (g.K.Key.number c.in_ok-key.key)) _ (with_last texts c.args.text.now) kept.0 c.try_resolve.ensures ∙ resolved))
    (key_in_frozen g.K.Key.key_at _ _ _ c.args.text.now _ c.in_ok-key.ensures c.in_ok-resolver.ensures.frozen)
