-- A list of keywords that is looked through from its beginning: it is distinct so far, and a keyword that is none of those before it keeps it
-- so. A keyword that is one of them shows that the whole list is not distinct.
use denote.Ref.{Bor}
use Rattle.std.proofs.Common.{ℕ, ◌≡◌, ◌+◌, ◌<◌, ◌≤◌, ◌||◌, not, nat_lt, cond, Bool, true, false, List, [], ◌∷◌, length, map, take, get_or, Option, Some, None, is_some, refl, sym, ap, subst, ◌∙◌, arith}
use Rattle.std.specs.Prelude.{slice_get}
use Rattle.std.specs.List.{list_any, position, position_or_len}
use Rattle.std.specs.Str.{bytes_eq}
use Rattle.std.proofs.lemmas.Bool.Decides.{nat_tests}
use Rattle.std.proofs.lemmas.List.{length-map, get_or-map, take-map, take_all}
use Rattle.std.proofs.lemmas.Map.Keys.{IsDistinct-from_apart}
use Rattle.std.proofs.lemmas.Option.{slice_get-get_or}
use Rattle.lasso_parts.specs.Texts.{Text, position_of, IsDistinct}
use Rattle.lasso_parts.proofs.IndexLaws.{absent_before}
use Rattle.lasso_parts.proofs.TextLemmas.{distinct_push}
use Rattle.lasso_single.proofs.KeyLists.{texts_more}

pub distinct_none : IsDistinct []
distinct_none = IsDistinct-from_apart bytes_eq [] (λ i j d below inside. absurd (omega arith))

-- the keywords before position i, of keywords that are lent
abbrev pub before : List (Bor Text) → ℕ → List Text
before keywords i = take i (map (λ t. t.now) keywords)

none_of : (o : Option ℕ) → is_some o ≡ false → o ≡ None
none_of None e = refl
none_of (Some n) e = cc

pub distinct_more : (keywords : List (Bor Text)) (i : ℕ) (d : Bor Text) (there : Bool) → i < length keywords → IsDistinct (before keywords i) → there ≡ is_some (position_of (map (λ t. t.now) (take i keywords)) (get_or keywords i d).now) → there ≡ false → IsDistinct (before keywords (i + 1))
distinct_more keywords i d there inside distinct is absent =
    let gone : position_of (before keywords i) (get_or keywords i d).now ≡ None = subst (λ (ts : List Text). position_of ts (get_or keywords i d).now ≡ None) (sym (take-map (λ t. t.now) i keywords)) (none_of _ (sym is ∙ absent)) in
    subst IsDistinct (sym (texts_more keywords i d inside)) (distinct_push (before keywords i) (get_or keywords i d).now distinct gone)

pub not_distinct : (keywords : List (Bor Text)) (i : ℕ) (d : Bor Text) (there : Bool) → i < length keywords → IsDistinct (map (λ t. t.now) keywords) → there ≡ is_some (position_of (map (λ t. t.now) (take i keywords)) (get_or keywords i d).now) → there ≡ true → ⊥
not_distinct keywords i d there inside distinct is present =
    let all = map (λ (t : Bor Text). t.now) keywords in
    let keyword = (get_or keywords i d).now in
    let at : slice_get all i ≡ Some keyword = slice_get-get_or all i [] (omega (arith, length-map keywords (λ t. t.now))) ∙ ap (λ (t : Text). Some t) (get_or-map (λ t. t.now) keywords i d [] inside) in
    let gone : position_of (map (λ t. t.now) (take i keywords)) keyword ≡ None = subst (λ (ts : List Text). position_of ts keyword ≡ None) (take-map (λ t. t.now) i keywords) (absent_before all i keyword distinct at) in
    let one : is_some (position_of (map (λ t. t.now) (take i keywords)) keyword) ≡ true = sym is ∙ present in
    cc

-- all the keywords were looked through
pub distinct_all : (keywords : List (Bor Text)) (i : ℕ) → length keywords ≤ i → IsDistinct (before keywords i) → IsDistinct (map (λ t. t.now) keywords)
distinct_all keywords i past distinct =
    subst IsDistinct (take_all i (map (λ t. t.now) keywords) (omega (arith, length-map keywords (λ t. t.now)))) distinct

-- ---- a search through a list

is_some_cond : (b : Bool) (n : ℕ) → is_some (cond b (Some n) None) ≡ b
is_some_cond true n = refl
is_some_cond false n = refl

any_step : {X : Type 0} (p : X → Bool) (x : X) (xs : List X) (b : Bool) → p x ≡ b → list_any p xs ≡ nat_lt (position_or_len p xs) (length xs) → list_any p (x ∷ xs) ≡ nat_lt (position_or_len p (x ∷ xs)) (length (x ∷ xs))
any_step p x xs true e rest = rw (e) (grind (arith, nat_tests))
any_step p x xs false e rest = rw (e) (rest ∙ grind (arith, nat_tests))

any_below : {X : Type 0} (p : X → Bool) (xs : List X) → list_any p xs ≡ nat_lt (position_or_len p xs) (length xs)
any_below p [] = refl
any_below p (x ∷ xs) = any_step p x xs (p x) refl (any_below p xs)

-- a test holds for one of the elements exactly where a search finds one
pub any_found : {X : Type 0} (p : X → Bool) (xs : List X) → list_any p xs ≡ is_some (position p xs)
any_found p xs = any_below p xs ∙ sym (is_some_cond (nat_lt (position_or_len p xs) (length xs)) (position_or_len p xs))
