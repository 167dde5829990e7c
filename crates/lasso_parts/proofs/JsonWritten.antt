-- Where the texts of a list are found among the members that they were put in.
--
-- In a distinct list no later text takes a text's number away. What is found was there before, or is the number after
-- the position of the text.
use Rattle.std.proofs.Common.{◌≡◌, ◌⊎◌, inl, inr, ℕ, zero, suc, ◌+◌, List, [], ◌∷◌, length, slice_get, false, Some, None, true≢false, refl, sym, ap, ◌∙◌, arith}
use Rattle.std.specs.List.{AllByRecursion}
use Rattle.std.specs.Str.{bytes_eq}
use Rattle.std.proofs.lemmas.Bool.{cases_Bool}
use Rattle.std.proofs.lemmas.Map.Keys.{IsDistinct-head, IsDistinct-tail}
use Rattle.std.proofs.lemmas.Slice.Eq.{bytes_eq-Decides}
use Rattle.serde_json.specs.Data.{Data, Members, no_members, member, put}
use Rattle.serde_json.specs.Events.{members_len}
use Rattle.serde_json.specs.Find.{get_member}
use Rattle.serde_json.proofs.Views.{get_member-put, get_member-put_other}
use Rattle.std.specs.Ordering.{match_ordering}
use Rattle.std.proofs.Common.{Ordering, Less, Equal, Greater}
use Rattle.lasso_parts.specs.Texts.{Text, IsDistinct}
use Rattle.lasso_parts.specs.JsonObjects.{position_number, put_texts}
use Rattle.lasso_parts.proofs.JsonOrder.{text_order}

-- the text is none of the list's
abbrev IsNone : Text → List Text → Type 0
IsNone t ts = AllByRecursion (λ u. bytes_eq t u ≡ false) ts

differ : (s t : Text) → bytes_eq s t ≡ false → s ≡ t → ⊥
differ s t apart same = true≢false (sym ((bytes_eq-Decides s t).1 same) ∙ apart)

-- a text that is none of those put keeps its value
kept : (q : Text) (n : ℕ) (ts : List Text) (ms : Members) → IsNone q ts → get_member q (put_texts n ts ms) ≡ get_member q ms
kept q n [] ms none = refl
kept q n (t ∷ ts) ms none =
    kept q (n + 1) ts (put t (position_number n) ms) none.1
    ∙ get_member-put_other q t (position_number n) ms (differ q t none.0)

-- each text is found with the number after its position
pub found_at : (n : ℕ) (ts : List Text) (ms : Members) (i : ℕ) (q : Text) → IsDistinct ts → slice_get ts i ≡ Some q → get_member q (put_texts n ts ms) ≡ Some (position_number (n + i))
found_at n [] ms i q apart at = cc
found_at n (t ∷ ts) ms zero q apart at =
    let same : t ≡ q = cc in
    let count : n ≡ n + 0 = omega arith in
    ap (λ (u : Text). get_member u (put_texts (n + 1) ts (put t (position_number n) ms))) (sym same)
    ∙ kept t (n + 1) ts (put t (position_number n) ms) (IsDistinct-head bytes_eq t ts apart)
    ∙ get_member-put t (position_number n) ms ∙ ap (λ (k : ℕ). Some (position_number k)) count
found_at n (t ∷ ts) ms (suc i) q apart at =
    let count : n + 1 + i ≡ n + suc i = omega arith in
    found_at (n + 1) ts (put t (position_number n) ms) i q (IsDistinct-tail bytes_eq t ts apart) at
    ∙ ap (λ (k : ℕ). Some (position_number k)) count

-- what is found was there, or is a text's
pub found_is : (n : ℕ) (ts : List Text) (ms : Members) (q : Text) (d : Data) → get_member q (put_texts n ts ms) ≡ Some d → (get_member q ms ≡ Some d) ⊎ ((i : ℕ) × (slice_get ts i ≡ Some q) × (d ≡ position_number (n + i)))
found_is n [] ms q d h = inl h
found_is n (t ∷ ts) ms q d h = elim (found_is (n + 1) ts (put t (position_number n) ms) q d h) [
  | inl before ↦ elim (cases_Bool (bytes_eq q t)) [
    | inl alike ↦
        let same : q ≡ t = (bytes_eq-Decides q t).0 alike in
        let value : Some (position_number n) ≡ Some d = sym (get_member-put t (position_number n) ms) ∙ ap (λ (u : Text). get_member u (put t (position_number n) ms)) (sym same) ∙ before in
        let is : position_number n ≡ d = cc in
        let count : n ≡ n + 0 = omega arith in
        inr (0, ap (λ (u : Text). Some u) (sym same), sym is ∙ ap position_number count)
    | inr other ↦ inl (sym (get_member-put_other q t (position_number n) ms (differ q t other)) ∙ before)
  ]
  | inr later ↦
      let count : n + 1 + later.0 ≡ n + suc later.0 = omega arith in
      inr (suc later.0, later.1, later.2 ∙ ap position_number count)
]

-- ---- how many members there are

long_at : (o : Ordering) (k l : Text) (d e : Data) (ms : Members) → text_order k l ≡ o → get_member k (member l e ms) ≡ None → (get_member k ms ≡ None → members_len (put k d ms) ≡ members_len ms + 1) → members_len (match_ordering o (member k d (member l e ms)) (member l d ms) (member l e (put k d ms))) ≡ members_len (member l e ms) + 1
long_at Less k l d e ms is none rest = omega arith
long_at Equal k l d e ms is none rest =
    let here : get_member k (member l e ms) ≡ Some e = rw is refl in
    let gone : Some e ≡ None = sym here ∙ none in cc
long_at Greater k l d e ms is none rest =
    let there : get_member k (member l e ms) ≡ get_member k ms = rw is refl in
    omega (arith, rest (sym there ∙ none))

long_put : (k : Text) (d : Data) (ms : Members) → get_member k ms ≡ None → members_len (put k d ms) ≡ members_len ms + 1
long_put k d no_members none = omega arith
long_put k d (member l e ms) none = long_at (text_order k l) k l d e ms refl none (long_put k d ms)

-- the texts have no value among the members
abbrev AreMissing : List Text → Members → Type 0
AreMissing ts ms = AllByRecursion (λ u. get_member u ms ≡ None) ts

missing_put : (t : Text) (d : Data) (ts : List Text) (ms : Members) → IsNone t ts → AreMissing ts ms → AreMissing ts (put t d ms)
missing_put t d [] ms none missing = tt
missing_put t d (u ∷ ts) ms none missing = (
  get_member-put_other u t d ms (λ same. differ t u none.0 (sym same)) ∙ missing.0,
  missing_put t d ts ms none.1 missing.1,
)

long_texts : (n : ℕ) (ts : List Text) (ms : Members) → IsDistinct ts → AreMissing ts ms → members_len (put_texts n ts ms) ≡ members_len ms + length ts
long_texts n [] ms apart missing = omega arith
long_texts n (t ∷ ts) ms apart missing =
    let more = long_put t (position_number n) ms missing.0 in
    let rest = long_texts (n + 1) ts (put t (position_number n) ms) (IsDistinct-tail bytes_eq t ts apart) (missing_put t (position_number n) ts ms (IsDistinct-head bytes_eq t ts apart) missing.1) in
    omega (arith, more, rest)

missing_none : (ts : List Text) → AreMissing ts no_members
missing_none [] = tt
missing_none (t ∷ ts) = (refl, missing_none ts)

-- there is one member for each text
pub long_object : (ts : List Text) → IsDistinct ts → members_len (put_texts 0 ts no_members) ≡ length ts
long_object ts apart = omega (arith, long_texts 0 ts no_members apart (missing_none ts))
