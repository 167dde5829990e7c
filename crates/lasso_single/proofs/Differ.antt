-- The test whether no text comes twice decides whether the list is distinct: both go through the list from its beginning, and hold where
-- the first text is none of the others and the others differ.
use Rattle.std.proofs.Common.{◌≡◌, ◌||◌, Bool, true, false, List, [], ◌∷◌, if◌then◌else◌, refl, sym, ap, ◌∙◌}
use Rattle.std.proofs.Math.Bool.{false-or}
use Rattle.std.specs.List as lists
use Rattle.std.specs.List.{list_any, AllByRecursion}
use Rattle.std.specs.Str.{bytes_eq}
use Rattle.std.proofs.lemmas.Map.Keys.{IsDistinct-cons, IsDistinct-head, IsDistinct-tail}
use Rattle.lasso_parts.specs.Texts.{Text, IsDistinct}
use Rattle.lasso_single.proofs.Distinct.{distinct_none}
use Rattle.lasso_single.specs.KeywordLists.{all_differ}

first_false : (a b : Bool) → (a || b) ≡ false → a ≡ false
first_false true b e = cc
first_false false b e = refl

second_false : (a b : Bool) → (a || b) ≡ false → b ≡ false
second_false true b e = cc
second_false false b e = sym (false-or b) ∙ e

apart_from : (t : Text) (ts : List Text) → list_any (bytes_eq t) ts ≡ false → AllByRecursion (λ y. bytes_eq t y ≡ false) ts
apart_from t [] e = tt
apart_from t (u ∷ us) e = (first_false (bytes_eq t u) (list_any (bytes_eq t) us) e, apart_from t us (second_false (bytes_eq t u) (list_any (bytes_eq t) us) e))

none_from : (t : Text) (ts : List Text) → AllByRecursion (λ y. bytes_eq t y ≡ false) ts → list_any (bytes_eq t) ts ≡ false
none_from t [] h = refl
none_from t (u ∷ us) h = ap (λ (b : Bool). b || list_any (bytes_eq t) us) h.0 ∙ false-or (list_any (bytes_eq t) us) ∙ none_from t us h.1

cons_case : (t : Text) (ts : List Text) (there : Bool) → list_any (bytes_eq t) ts ≡ there → (if there then false else all_differ ts) ≡ true → (all_differ ts ≡ true → IsDistinct ts) → IsDistinct (t ∷ ts)
cons_case t ts true is e rest = absurd (cc)
cons_case t ts false is e rest = IsDistinct-cons bytes_eq t ts (apart_from t ts is) (rest e)

pub distinct_from : (ts : List Text) → all_differ ts ≡ true → IsDistinct ts
distinct_from [] e = distinct_none
distinct_from (t ∷ ts) e = cons_case t ts (list_any (bytes_eq t) ts) refl e (distinct_from ts)

pub differ_from : (ts : List Text) → IsDistinct ts → all_differ ts ≡ true
differ_from [] d = refl
differ_from (t ∷ ts) d =
    ap (λ (b : Bool). if b then false else all_differ ts) (none_from t ts (IsDistinct-head bytes_eq t ts d)) ∙ differ_from ts (IsDistinct-tail bytes_eq t ts d)

same_false : (b : Bool) → (b ≡ true → false ≡ true) → false ≡ b
same_false true h = h refl
same_false false h = refl

-- what holds where the list is distinct, and there alone, is the test
pub is_test : (b : Bool) (ts : List Text) → (b ≡ true → IsDistinct ts) → (IsDistinct ts → b ≡ true) → b ≡ all_differ ts
is_test true ts to from = sym (differ_from ts (to refl))
is_test false ts to from = same_false (all_differ ts) (λ e. from (distinct_from ts e))
