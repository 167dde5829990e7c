-- The second call finds the text where the first one left it: it is not refused, gives the same key, and
-- leaves the list as it is. The key is then the text's in that list.
use Rattle.std.proofs.Common.{◌≡◌, ap, Some, IsTrue, subst, sym}
use Rattle.lasso_parts.specs.Texts.{key_of}
use Rattle.lasso.specs.Interning.{with_last}
use Rattle.lasso.proofs.Interned.{never_refused_again, interned_twice, if_none, if_some_at, if_some_map}
use Rattle.test_lasso.proofs.laws.interns_as_one.Goals as goal
use Rattle.test_lasso.proofs.laws.interns_as_one.Goals.{then-is_key, else-is_key}

pub returns-in_err-again-clause-list : goal.returns-in_err-again-clause-list
returns-in_err-again-clause-list g c =
    if_none _ _ (never_refused_again g.K.Key.key_at _ _ _ c.args.text.now _ _ c.in_ok-first.ensures c.in_err-again.ensures)

pub returns-in_err-again-clause-refused : goal.returns-in_err-again-clause-refused
returns-in_err-again-clause-refused g c =
    if_none _ _ (never_refused_again g.K.Key.key_at _ _ _ c.args.text.now _ _ c.in_ok-first.ensures c.in_err-again.ensures)

pub returns-clause-one : goal.returns-clause-one
returns-clause-one g c =
    let twice = interned_twice g.K.Key.key_at _ _ _ c.args.text.now _ _ c.in_ok-first.ensures c.in_ok-again.ensures in
    if_some_map _ _ (g.I.Resolver.meaning c.args.interner.now)
    (λ texts found. elim c.if-is_key.branch [
      | then-is_key w ↦ subst IsTrue (sym w.result-is) (if_some_at (λ after. key_of g.K.Key.key_at after c.args.text.now ≡ Some c.in_ok-first.first → IsTrue w.stands_for.result) _ (with_last texts c.args.text.now) found.0 w.stands_for.ensures found.2)
      | else-is_key w ↦ let same = c.is_key.ensures (ap Some found.1) in absurd (cc)
    ])
    twice

pub returns-clause-list : goal.returns-clause-list
returns-clause-list g c =
    let twice = interned_twice g.K.Key.key_at _ _ _ c.args.text.now _ _ c.in_ok-first.ensures c.in_ok-again.ensures in
    if_some_map _ _ (g.I.Resolver.meaning c.args.interner.now) (λ texts found. found.0) twice
