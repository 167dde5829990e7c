-- The reader has the list that the intern left, in which the key is the text's.
use Rattle.std.proofs.Common.{◌≡◌, Some, IsTrue}
use Rattle.lasso_parts.specs.Texts.{key_of}
use Rattle.lasso.specs.Interning.{with_last}
use Rattle.lasso.proofs.Interned.{key_in_frozen, if_some_at, if_some_map}
use Rattle.test_lasso.proofs.laws.reader_knows.Goals as goal

pub returns-clause-known : goal.returns-clause-known
returns-clause-known g c =
    if_some_map _ _ _
    (λ texts kept. if_some_at (λ after. key_of g.K.Key.key_at after c.args.text.now ≡ Some c.in_ok-key.key → IsTrue c.stands_for.result) _ (with_last texts c.args.text.now) kept.0 c.stands_for.ensures kept.1)
    (key_in_frozen g.K.Key.key_at _ _ _ c.args.text.now _ c.in_ok-key.ensures c.in_ok-reader.ensures.frozen)
