-- Variables and their names.
--
-- The texts of an interner are distinct, so a variable has a name exactly where its key has the number of the
-- name's position. A name that is not in the list is the name of no variable. The names of variables stay
-- while the list grows.
use Rattle.std.proofs.Common.{ℕ, ◌≡◌, ◌<◌, ◌+◌, ◌==◌, List, [], ◌∷◌, ◌++◌, length, All, get_or, false, is_some, Option, Some, None, refl, sym, ap, subst, ◌∙◌, arith}
use Rattle.std.specs.Prelude.{slice_get, option_map}
use Rattle.std.specs.List.{AllByRecursion}
use Rattle.std.proofs.lemmas.Bool.Decides.{nat_tests}
use Rattle.std.proofs.lemmas.List.{map_push}
use Rattle.std.proofs.lemmas.List.Elements.{recursion_from_All}
use Rattle.std.proofs.lemmas.Option.{slice_get-map, slice_get-get_or, none-some}
use Rattle.lasso.proofs.Tickets.{by_cases}
use Rattle.lasso.proofs.IndexLaws.{position_of_at}
use Rattle.lasso.specs.Texts.{Text, IsDistinct, position_of}
use Rattle.lasso_guide.specs.Scopes.{IsLast, IsNamed, names_of}

-- ---- the last number for which something holds

-- two properties of the same numbers
pub last_alike : (P Q : ℕ → Type 0) (end : ℕ) (found : Option ℕ) → ((n : ℕ) → P n → Q n) → ((n : ℕ) → Q n → P n) → IsLast P end found → IsLast Q end found
last_alike P Q end None to from last = λ n low holds. last n low (from n holds)
last_alike P Q end (Some s) to from last = (last.0, to s last.1, λ n above low holds. last.2 n above low (from n holds))

-- a number more, for which it holds
pub last_yes : (P : ℕ → Type 0) (end : ℕ) → P end → IsLast P (end + 1) (Some end)
last_yes P end holds = (omega arith, holds, λ n above low other. absurd (omega (arith, above, low)))

-- a number more, for which it does not
pub last_no : (P : ℕ → Type 0) (end : ℕ) (found : Option ℕ) → (P end → ⊥) → IsLast P end found → IsLast P (end + 1) found
last_no P end None fails last = λ n low holds. by_cases (n == end)
    (λ yes. let here : n ≡ end = grind (arith, nat_tests, yes) in fails (subst P here holds))
    (λ no. let below : n < end = grind (arith, nat_tests, no, low) in last n below holds)
last_no P end (Some s) fails last = (
  omega (arith, last.0),
  last.1,
  λ n above low holds. by_cases (n == end)
      (λ yes. let here : n ≡ end = grind (arith, nat_tests, yes) in fails (subst P here holds))
      (λ no. let below : n < end = grind (arith, nat_tests, no, low) in last.2 n above below holds),
)

-- ---- names

-- the variable in this place has the key of this number
abbrev pub HasNumber : {K : Type 0} → (K → ℕ) → List K → ℕ → ℕ → Type 0
HasNumber {K} number variables wanted place = (variable : K) × (slice_get variables place ≡ Some variable) × (number variable ≡ wanted)

some_of : {K Y : Type 0} (f : K → Option Y) (o : Option K) (y : Y) → option_map f o ≡ Some (Some y) → (k : K) × (o ≡ Some k) × (f k ≡ Some y)
some_of f None y is = absurd (cc)
some_of f (Some k) y is = (k, refl, cc)

module _ {K : Type 0} (number : K → ℕ) where
  -- a named variable's key has the position of the name
  pub named_has : (texts : List Text) (variables : List K) (name : Text) (place : ℕ) → IsDistinct texts → IsNamed (names_of number texts variables) place name → (variable : K) × (slice_get variables place ≡ Some variable) × (position_of texts name ≡ Some (number variable))
  named_has texts variables name place distinct named =
      let found = some_of (λ v. slice_get texts (number v)) (slice_get variables place) name (sym (slice_get-map (λ v. slice_get texts (number v)) variables place) ∙ named) in
      (found.0, found.1, position_of_at texts name (number found.0) distinct found.2)

  -- so it has the number of the name's key
  pub named_has_number : (texts : List Text) (variables : List K) (name : Text) (wanted place : ℕ) → IsDistinct texts → slice_get texts wanted ≡ Some name → IsNamed (names_of number texts variables) place name → HasNumber number variables wanted place
  named_has_number texts variables name wanted place distinct at named =
      let has = named_has texts variables name place distinct named in
      let same : Some (number has.0) ≡ Some wanted = sym has.2 ∙ position_of_at texts name wanted distinct at in
      (has.0, has.1, cc)

  -- and the reverse
  pub number_is_named : (texts : List Text) (variables : List K) (name : Text) (wanted place : ℕ) → slice_get texts wanted ≡ Some name → HasNumber number variables wanted place → IsNamed (names_of number texts variables) place name
  number_is_named texts variables name wanted place at has =
      slice_get-map (λ v. slice_get texts (number v)) variables place ∙ ap (option_map (λ v. slice_get texts (number v))) has.1
      ∙ ap Some (ap (slice_get texts) has.2 ∙ at)

  -- a name that is not in the list is the name of no variable
  pub none_named : (texts : List Text) (variables : List K) (name : Text) (end : ℕ) → IsDistinct texts → position_of texts name ≡ None → IsLast (λ place. IsNamed (names_of number texts variables) place name) end None
  none_named texts variables name end distinct lacks = λ place low named.
      let has = named_has texts variables name place distinct named in
      none-some (number has.0) (sym lacks ∙ has.2)

  -- variables keep their names where each text of the list stays
  pub names_stay_each : (texts later : List Text) (variables : List K) → ((n : ℕ) (text : Text) → slice_get texts n ≡ Some text → slice_get later n ≡ Some text) → AllByRecursion (λ v. number v < length texts) variables → names_of number later variables ≡ names_of number texts variables
  names_stay_each texts later [] stays within = refl
  names_stay_each texts later (v ∷ variables) stays within =
      let there : slice_get texts (number v) ≡ Some (get_or texts (number v) []) = slice_get-get_or texts (number v) [] within.0 in
      let here : slice_get later (number v) ≡ slice_get texts (number v) = stays (number v) (get_or texts (number v) []) there ∙ sym there in
      let others : names_of number later variables ≡ names_of number texts variables = names_stay_each texts later variables stays within.1 in
      cc

  pub names_stay : (texts later : List Text) (variables : List K) → ((n : ℕ) (text : Text) → slice_get texts n ≡ Some text → slice_get later n ≡ Some text) → All (λ v. number v < length texts) variables → names_of number later variables ≡ names_of number texts variables
  names_stay texts later variables stays within = names_stay_each texts later variables stays (recursion_from_All (λ v. number v < length texts) variables within)

  -- with the variable that was declared last
  pub names_declared : (texts later : List Text) (variables : List K) (variable : K) (name : Text) → ((n : ℕ) (text : Text) → slice_get texts n ≡ Some text → slice_get later n ≡ Some text) → All (λ v. number v < length texts) variables → slice_get later (number variable) ≡ Some name → names_of number later (variables ++ variable ∷ []) ≡ names_of number texts variables ++ Some name ∷ []
  names_declared texts later variables variable name stays within here =
      map_push (λ v. slice_get later (number v)) variables variable
      ∙ ap (λ names. names ++ slice_get later (number variable) ∷ []) (names_stay texts later variables stays within)
      ∙ ap (λ last. names_of number texts variables ++ last ∷ []) here

-- a position that is not there
pub is_absent : (o : Option ℕ) → is_some o ≡ false → o ≡ None
is_absent None e = refl
is_absent (Some n) e = cc
