-- What the owner of a list and of its index cites.
--
-- An index stays filed when the list grows, since the texts that it holds stay at their positions. Where the
-- list is distinct and the index holds exactly its positions, a search that found a text found the one
-- position that has it, and a search that found none shows that no position has it: so its result is the
-- text's position in the list. Such an index stays whole when a new text goes last and its position is
-- entered under the text's hash.
use Rattle.std.proofs.Common.{◌≡◌, ◌≢◌, ℕ, zero, suc, ◌+◌, ◌<◌, ◌⊎◌, ◌↔◌, List, [], ◌∷◌, ◌++◌, Bool, true, false, cond, Option, Some, None, Result, Ok, Err, IfOk, IfErr, MatchResult, length, take, drop, slice_get, get_or, refl, sym, ap, ◌∙◌, subst, inl, inr, arith}
use Rattle.std.specs.List.{position_or_len}
use Rattle.std.specs.Str.{bytes_eq}
use Rattle.std.proofs.lemmas.Bool.{cases_lt, cases_Bool, lt-ltb, le-ltb, true≢false}
use Rattle.std.proofs.lemmas.List.{length-append, length_push, take-append-drop, length-take-le}
use Rattle.std.proofs.lemmas.List.Sums.{position_or_len_is}
use Rattle.std.proofs.lemmas.Option.{slice_get_within, slice_get-get_or, get_or_from_slice_get}
use Rattle.std.proofs.lemmas.Map.Keys.{apart_from_distinct, IsDistinct-from_apart}
use Rattle.std.proofs.lemmas.Slice.Eq.{bytes_eq-Decides}
use Rattle.lasso_parts.specs.Texts.{Text, position_of, IsDistinct}
use Rattle.lasso_parts.specs.Index.{Table, used, Holds, HoldsNone, IsFiled, IsFiledAnywhere, StaysFiled, IsIndexOf}
use Rattle.lasso_parts.proofs.TextLemmas.{distinct_push}

-- ---- filed under a list

-- an index that holds nothing is filed under any list
pub IsFiled-from_none : (table : Table) → HoldsNone table.slots → IsFiledAnywhere table
IsFiled-from_none table none hash_of texts = record {
  in_list = λ j n e. absurd (none n (j, e));
  reached = λ j n t e g. absurd (none n (j, e));
  fitting = λ j n t e g. absurd (none n (j, e));
}

pub slice_get-append_left : {A : Type 0} (xs ys : List A) (n : ℕ) → n < length xs → slice_get (xs ++ ys) n ≡ slice_get xs n
slice_get-append_left [] ys n l = absurd (omega arith)
slice_get-append_left (x ∷ xs) ys zero l = refl
slice_get-append_left (x ∷ xs) ys (suc n) l = slice_get-append_left xs ys n (omega arith)

pub slice_get_push : {A : Type 0} (xs : List A) (y : A) → slice_get (xs ++ y ∷ []) (length xs) ≡ Some y
slice_get_push [] y = refl
slice_get_push (x ∷ xs) y = slice_get_push xs y

-- an index stays filed when the list grows
pub IsFiled-append : (hash_of : Text → ℕ) (texts more : List Text) (table : Table) → IsFiled hash_of texts table → IsFiled hash_of (texts ++ more) table
IsFiled-append hash_of texts more table filed = record {
  in_list = λ j n e. let l = filed.in_list j n e in omega (arith, length-append texts more);
  reached = λ j n t e g. filed.reached j n t e (sym (slice_get-append_left texts more n (filed.in_list j n e)) ∙ g);
  fitting = λ j n t e g. filed.fitting j n t e (sym (slice_get-append_left texts more n (filed.in_list j n e)) ∙ g);
}

-- ---- positions in a distinct list

same_text : (a b t : Text) → a ≡ t → b ≡ t → bytes_eq a b ≡ true
same_text a b t p q = (bytes_eq-Decides a b).1 (p ∙ sym q)

apart : (texts : List Text) (i j : ℕ) (text : Text) → IsDistinct texts → slice_get texts i ≡ Some text → slice_get texts j ≡ Some text → i < j → ⊥
apart texts i j text distinct at_i at_j below =
    let differ = apart_from_distinct bytes_eq texts i j [] distinct below (slice_get_within texts j text at_j) in
    true≢false (sym (same_text _ _ text (get_or_from_slice_get texts i text [] at_i) (get_or_from_slice_get texts j text [] at_j)) ∙ differ)

-- a text of a distinct list has one position
pub one_position : (texts : List Text) (i j : ℕ) (text : Text) → IsDistinct texts → slice_get texts i ≡ Some text → slice_get texts j ≡ Some text → i ≡ j
one_position texts i j text distinct at_i at_j = elim (cases_lt i j) [
  | inl below ↦ absurd (apart texts i j text distinct at_i at_j below)
  | inr above ↦ elim (cases_lt j i) [
    | inl below ↦ absurd (apart texts j i text distinct at_j at_i below)
    | inr same ↦ omega arith
  ]
]

differs : (xs : Text) (text : Text) → xs ≢ text → bytes_eq xs text ≡ false
differs xs text ne = elim (cases_Bool (bytes_eq xs text)) [ inl t ↦ absurd (ne ((bytes_eq-Decides xs text).0 t)) | inr f ↦ f ]

cond_true : {A : Type 0} (b : Bool) (x y : A) → b ≡ true → cond b x y ≡ x
cond_true b x y e = ap (λ c. cond c x y) e

cond_false : {A : Type 0} (b : Bool) (x y : A) → b ≡ false → cond b x y ≡ y
cond_false b x y e = ap (λ c. cond c x y) e

-- the position of a text that is in a distinct list
pub position_of_at : (texts : List Text) (text : Text) (n : ℕ) → IsDistinct texts → slice_get texts n ≡ Some text → position_of texts text ≡ Some n
position_of_at texts text n distinct at =
    let l : n < length texts = slice_get_within texts n text at in
    let p : position_or_len (λ t. bytes_eq t text) texts ≡ n = position_or_len_is (λ t. bytes_eq t text) texts n [] (omega arith)
    (λ k h. differs (get_or texts k []) text (λ e. let same : k ≡ n = one_position texts k n text distinct (slice_get-get_or texts k [] (omega arith) ∙ ap Some e) at in omega arith))
    (λ h. (bytes_eq-Decides (get_or texts n []) text).1 (get_or_from_slice_get texts n text [] at)) in
    cond_true _ _ None (lt-ltb _ (length texts) (subst (λ k. k < length texts) (sym p) l)) ∙ ap Some p

-- a text that is nowhere has no position
pub position_of_none : (texts : List Text) (text : Text) → ((n : ℕ) → n < length texts → slice_get texts n ≢ Some text) → position_of texts text ≡ None
position_of_none texts text none =
    let p : position_or_len (λ t. bytes_eq t text) texts ≡ length texts = position_or_len_is (λ t. bytes_eq t text) texts (length texts) [] (omega arith)
    (λ k h. differs (get_or texts k []) text (λ e. none k h (slice_get-get_or texts k [] h ∙ ap Some e)))
    (λ h. absurd (omega arith)) in
    cond_false _ (Some (position_or_len (λ t. bytes_eq t text) texts)) None (le-ltb _ (length texts) (omega (arith, p)))

-- the text at a position of a distinct list is none of those before it
pub absent_before : (texts : List Text) (i : ℕ) (text : Text) → IsDistinct texts → slice_get texts i ≡ Some text → position_of (take i texts) text ≡ None
absent_before texts i text distinct at =
    let inside : i < length texts = slice_get_within texts i text at in
    let count : length (take i texts) ≡ i = length-take-le i texts (omega arith) in
    position_of_none (take i texts) text (λ n l e.
    let same : slice_get texts n ≡ slice_get (take i texts) n = ap (λ (ts : List Text). slice_get ts n) (sym (take-append-drop i texts)) ∙ slice_get-append_left (take i texts) (drop i texts) n l in
    let one : n ≡ i = one_position texts n i text distinct (same ∙ e) at in
    absurd (omega arith))

-- ---- the index of a whole list

-- what a search returns in the index of a whole list is the text's position, or that there is none
pub located : (hash_of : Text → ℕ) (texts : List Text) (table : Table) (text : Text) (r : Result ℕ ℕ) → IsIndexOf hash_of texts table → IfOk r (λ n. Holds table.slots n × (slice_get texts n ≡ Some text)) → IfErr r (λ _. (n : ℕ) → Holds table.slots n → slice_get texts n ≢ Some text) → MatchResult r (λ n. position_of texts text ≡ Some n) (λ _. position_of texts text ≡ None)
located hash_of texts table text (Ok n) whole found missing = position_of_at texts text n whole.distinct found.1
located hash_of texts table text (Err at) whole found missing = position_of_none texts text (λ n l. missing n ((whole.holds n).1 l))

used_none : (xs : List (Option ℕ)) → HoldsNone xs → used xs ≡ 0
used_none [] none = refl
used_none (None ∷ xs) none = used_none xs (λ n h. none n (suc h.0, h.1))
used_none (Some n ∷ xs) none = absurd (none n (0, refl))

-- an index that holds nothing is that of the empty list
pub IsIndexOf-nil : (hash_of : Text → ℕ) (table : Table) → HoldsNone table.slots → IsIndexOf hash_of [] table
IsIndexOf-nil hash_of table none = record {
  filed = IsFiled-from_none table none hash_of [];
  holds = λ n. (λ h. absurd (none n h), λ l. absurd (omega arith));
  once = used_none table.slots none;
  distinct = IsDistinct-from_apart bytes_eq [] (λ i j d below inside. absurd (omega arith));
}

-- an index stays that of the list when it makes room
pub IsIndexOf-reserved : (hash_of : Text → ℕ) (texts : List Text) (old new : Table) → IsIndexOf hash_of texts old → IsFiled hash_of texts new → ((n : ℕ) → Holds new.slots n ↔ Holds old.slots n) → used new.slots ≡ used old.slots → IsIndexOf hash_of texts new
IsIndexOf-reserved hash_of texts old new whole filed same counted = record {
  filed = filed;
  holds = λ n. (λ h. (whole.holds n).0 ((same n).0 h), λ l. (same n).1 ((whole.holds n).1 l));
  once = counted ∙ whole.once;
  distinct = whole.distinct;
}

-- a new text goes last in the list, and its position is entered under the text's hash
pub IsIndexOf-push : (hash_of : Text → ℕ) (texts : List Text) (text : Text) (hash n : ℕ) (old new : Table) → IsIndexOf hash_of texts old → position_of texts text ≡ None → n ≡ length texts → hash ≡ hash_of text → ((m : ℕ) → Holds new.slots m ↔ (Holds old.slots m ⊎ (m ≡ n))) → used new.slots ≡ used old.slots + 1 → StaysFiled hash n old new → IsIndexOf hash_of (texts ++ text ∷ []) new
IsIndexOf-push hash_of texts text hash n old new whole absent last hashed held more stays = record {
  filed = stays hash_of (texts ++ text ∷ []) text (IsFiled-append hash_of texts (text ∷ []) old whole.filed) (ap (slice_get (texts ++ text ∷ [])) last ∙ slice_get_push texts text) hashed;
  holds = λ m. (
    λ h. elim ((held m).0 h) [ inl w ↦ let l = (whole.holds m).0 w in omega (arith, length_push texts text) | inr e ↦ omega (arith, length_push texts text) ],
    λ l. (held m).1 (elim (cases_lt m (length texts)) [ inl b ↦ inl ((whole.holds m).1 b) | inr b ↦ inr (omega (arith, length_push texts text)) ]),
  );
  once = more ∙ ap (λ k. k + 1) whole.once ∙ sym (length_push texts text);
  distinct = distinct_push texts text whole.distinct absent;
}
