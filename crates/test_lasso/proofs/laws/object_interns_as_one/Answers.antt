-- The second call finds the text where the first one left it: it is not refused, gives the same key, and
-- leaves the list as it is. The key is then the text's in that list, and resolves to it.
use Rattle.std.proofs.Common.{◌∙◌, ◌-◌, Bool, true, false, ◌&&◌, IsTrue, refl, ap, Some, arith}
use Rattle.lasso_parts.specs.Kept.{kept_at, kept_made}
use Rattle.lasso.proofs.Interned.{never_refused, twice, key_resolves}
use Rattle.test_lasso.proofs.laws.object_interns_as_one.Goals as goal

all_true : (a b c : Bool) → IsTrue a → IsTrue b → IsTrue c → IsTrue (a && b && c)
all_true true true true x y z = refl
all_true false b c x y z = absurd (cc)
all_true true false c x y z = absurd (cc)
all_true true true false x y z = absurd (cc)

pub returns-in_err-again-clause-list : goal.returns-in_err-again-clause-list
returns-in_err-again-clause-list g c =
    absurd (never_refused (kept_at 4294967295) _ _ _ c.args.text.now _ _ c.in_ok-first.ensures c.in_err-again.ensures)

pub returns-in_err-again-clause-refused : goal.returns-in_err-again-clause-refused
returns-in_err-again-clause-refused g c =
    absurd (never_refused (kept_at 4294967295) _ _ _ c.args.text.now _ _ c.in_ok-first.ensures c.in_err-again.ensures)

pub returns-clause-one : goal.returns-clause-one
returns-clause-one g c =
    let known = twice (kept_at 4294967295) _ _ _ c.args.text.now _ _ c.in_ok-first.ensures c.in_ok-again.ensures in
    let same = c.is_key-is_same.ensures (ap Some known.1) in
    let found = c.is_key-is_found.ensures (c.get.ensures ∙ known.2) in
    let back = c.is_text-is_back.ensures.1 (c.try_resolve.ensures ∙ key_resolves (kept_at 4294967295) (λ k. k - 1) (λ n k e. (kept_made 4294967295 (omega arith) n k e).2) _ c.args.text.now c.in_ok-first.first known.2) in
    all_true _ _ _ same found back

pub returns-clause-list : goal.returns-clause-list
returns-clause-list g c =
    (twice (kept_at 4294967295) _ _ _ c.args.text.now _ _ c.in_ok-first.ensures c.in_ok-again.ensures).0
