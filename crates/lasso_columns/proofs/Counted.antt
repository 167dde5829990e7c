-- Counts of the texts of a list that grows.
--
-- A text that is counted is in the list, or is appended to it. If it is in the list, its count grows by one,
-- and no other text is at its position. If not, it did not occur before, and its count is one. Each other
-- text is found where it was before. So the count of each text is still the number of times that it occurs,
-- and the sum of the counts grows by one, as the number of texts does.
use Rattle.std.proofs.Common.{ℕ, ◌≡◌, ◌≢◌, ◌+◌, ◌-◌, ◌<◌, List, [], ◌∷◌, ◌++◌, length, get_or, set, sum, Bool, true, false, cond, Option, Some, None, Ok, is_some, refl, sym, ap, subst, ◌∙◌, arith, append_assoc, get_or-set_same, get_or-set_other, add-zero}
use Rattle.std.specs.Prelude.{slice_get}
use Rattle.std.specs.Str.{bytes_eq}
use Rattle.std.proofs.Math.Seq.{get_or-append_seam}
use Rattle.std.proofs.lemmas.Bool.Decides.{nat_tests}
use Rattle.std.proofs.lemmas.List.{append-nil, length_push, length-set, get_or_append_left}
use Rattle.std.proofs.lemmas.List.Folds.{position_or_len_push}
use Rattle.std.proofs.lemmas.List.Sums.{sum_by_push, sum_by-set}
use Rattle.std.proofs.lemmas.Option.{slice_get_within}
use Rattle.std.proofs.lemmas.Slice.Eq.{bytes_eq-Decides}
use Rattle.lasso_parts.proofs.TextLemmas.{position_here, position_last, distinct_push}
use Rattle.lasso_parts.specs.Texts.{Text, position_of, IsDistinct}
use Rattle.lasso_single.specs.Intern.{InternsIn, interned_position}
use Rattle.lasso_single.specs.Interner.{InternerView}
use Rattle.lasso_columns.proofs.Interned.{with_last}
use Rattle.lasso_columns.proofs.Interned.{list_interned}
use Rattle.lasso_single.proofs.Coded.{position_stays}
use Rattle.lasso_single.proofs.Encoded.{position_of_key}
use Rattle.lasso_single.specs.Coding.{spur_at}
use Rattle.lasso_columns.specs.Parts.{new_texts}
use Rattle.lasso_columns.specs.Counts.{AreCounts, count_at, counted, added}

-- ---- the list of the distinct texts

grown : (list : List Text) (text : Text) (texts : List Text) (there : Bool) → cond there list (list ++ text ∷ []) ++ new_texts (cond there list (list ++ text ∷ [])) texts ≡ list ++ cond there (new_texts list texts) (text ∷ new_texts (list ++ text ∷ []) texts)
grown list text texts true = refl
grown list text texts false = append_assoc list (text ∷ []) (new_texts (list ++ text ∷ []) texts)

-- one text more
pub new_push : (list texts : List Text) (text : Text) → list ++ new_texts list (texts ++ text ∷ []) ≡ with_last (list ++ new_texts list texts) text
new_push list [] text =
    sym (grown list text [] (is_some (position_of list text))) ∙ append-nil (with_last list text) ∙ ap (λ (ts : List Text). with_last ts text) (sym (append-nil list))
new_push list (t ∷ texts) text =
    sym (grown list t (texts ++ text ∷ []) (is_some (position_of list t))) ∙ new_push (with_last list t) texts text
    ∙ ap (λ (ts : List Text). with_last ts text) (grown list t texts (is_some (position_of list t)))

pub list_push : (texts list : List Text) (text : Text) → list ≡ new_texts [] texts → with_last list text ≡ new_texts [] (texts ++ text ∷ [])
list_push texts list text is = ap (λ (ts : List Text). with_last ts text) is ∙ sym (new_push [] texts text)

distinct_last : (list : List Text) (text : Text) (o : Option ℕ) → position_of list text ≡ o → IsDistinct list → IsDistinct (cond (is_some o) list (list ++ text ∷ []))
distinct_last list text None at distinct = distinct_push list text distinct at
distinct_last list text (Some n) at distinct = distinct

-- no text is twice among the distinct ones
pub distinct_new : (list texts : List Text) → IsDistinct list → IsDistinct (list ++ new_texts list texts)
distinct_new list [] distinct = subst IsDistinct (sym (append-nil list)) distinct
distinct_new list (t ∷ texts) distinct =
    subst IsDistinct (grown list t texts (is_some (position_of list t))) (distinct_new (with_last list t) texts (distinct_last list t (position_of list t) refl distinct))

-- ---- the count of each text

pub same_text : (a b : Text) → bytes_eq a b ≡ true → a ≡ b
same_text a b e = (bytes_eq-Decides a b).0 e

pub position_absent : (list : List Text) (last text : Text) → position_of list text ≡ None → bytes_eq last text ≡ false → position_of (list ++ last ∷ []) text ≡ None
position_absent list last text none other = grind (arith, nat_tests, position_or_len_push (λ t. bytes_eq t text) list last, length_push list last)

pub inside : (list : List Text) (counts : List ℕ) (text : Text) (n : ℕ) → length counts ≡ length list → position_of list text ≡ Some n → n < length counts
inside list counts text n lengths at = let small = slice_get_within list n text (position_here list text n at) in omega (arith, small, lengths)

pub last_one : (counts : List ℕ) (n amount : ℕ) → length counts ≡ n → get_or (counts ++ amount ∷ []) n 0 ≡ amount
last_one counts n amount e = ap (λ k. get_or (counts ++ amount ∷ []) k 0) (sym e) ∙ get_or-append_seam counts amount [] 0

-- a new text with a given count
pub tell_new : (list : List Text) (counts : List ℕ) (amount : ℕ) (text s : Text) (same : Bool) (o : Option ℕ) → position_of list text ≡ None → length counts ≡ length list → bytes_eq text s ≡ same → position_of list s ≡ o → count_at (counts ++ amount ∷ []) (position_of (list ++ text ∷ []) s) ≡ count_at counts o + cond same amount 0
tell_new list counts amount text s true o none lengths e at =
    let is : text ≡ s = same_text text s e in
    let absent : position_of list s ≡ None = subst (λ (t : Text). position_of list t ≡ None) is none in
    let here : position_of (list ++ text ∷ []) s ≡ Some (length list) = subst (λ (t : Text). position_of (list ++ text ∷ []) t ≡ Some (length list)) is (position_last list text none) in
    let nothing : count_at counts o ≡ 0 = ap (λ p. count_at counts p) (sym at ∙ absent) in
    let whole : amount ≡ count_at counts o + amount = omega (arith, nothing) in
    ap (λ p. count_at (counts ++ amount ∷ []) p) here ∙ last_one counts (length list) amount lengths ∙ whole
tell_new list counts amount text s false None none lengths e at =
    ap (λ p. count_at (counts ++ amount ∷ []) p) (position_absent list text s at e)
tell_new list counts amount text s false (Some n) none lengths e at =
    ap (λ p. count_at (counts ++ amount ∷ []) p) (position_stays list text s n at) ∙ get_or_append_left counts (amount ∷ []) 0 n (inside list counts s n lengths at) ∙ sym (add-zero (get_or counts n 0))

apart : (list : List Text) (text s : Text) (n k : ℕ) → position_of list text ≡ Some n → position_of list s ≡ Some k → bytes_eq text s ≡ false → k ≢ n
apart list text s n k at at' other = λ e.
    let here : slice_get list n ≡ Some text = position_here list text n at in
    let there : slice_get list n ≡ Some s = subst (λ i. slice_get list i ≡ Some s) e (position_here list s k at') in
    let is : text ≡ s = cc in
    let equal : bytes_eq text s ≡ true = (bytes_eq-Decides text s).1 is in cc

-- a present text whose count grows by a given amount
pub tell_old : (list : List Text) (counts : List ℕ) (amount : ℕ) (text s : Text) (n : ℕ) (same : Bool) (o : Option ℕ) → position_of list text ≡ Some n → length counts ≡ length list → bytes_eq text s ≡ same → position_of list s ≡ o → count_at (set counts n (get_or counts n 0 + amount)) o ≡ count_at counts o + cond same amount 0
tell_old list counts amount text s n true o here lengths e at =
    let is : text ≡ s = same_text text s e in
    let found : o ≡ Some n = sym at ∙ subst (λ (t : Text). position_of list t ≡ Some n) is here in
    rw (found) (get_or-set_same counts n (get_or counts n 0 + amount) 0 (inside list counts text n lengths here))
tell_old list counts amount text s n false None here lengths e at = refl
tell_old list counts amount text s n false (Some k) here lengths e at =
    get_or-set_other counts n k (get_or counts n 0 + amount) 0 (apart list text s n k here at e) ∙ sym (add-zero (get_or counts k 0))

-- ---- one text more is counted

-- at a position that has a count, or after the last one
abbrev pub IsPlace : List ℕ → Option ℕ → Type 0
IsPlace counts o = (n : ℕ) → o ≡ Some n → n < length counts

pub counted_total : (counts : List ℕ) (o : Option ℕ) → IsPlace counts o → sum (counted counts o) ≡ sum counts + 1
counted_total counts None place = sum_by_push (λ x. x) counts 1
counted_total counts (Some n) place =
    let change = sum_by-set (λ x. x) counts n (get_or counts n 0 + 1) 0 (place n refl) in omega (arith, change)

counted_length : (counts : List ℕ) (list : List Text) (text : Text) (o : Option ℕ) → length counts ≡ length list → length (counted counts o) ≡ length (cond (is_some o) list (list ++ text ∷ []))
counted_length counts list text None lengths = length_push counts 1 ∙ ap (λ n. n + 1) lengths ∙ sym (length_push list text)
counted_length counts list text (Some n) lengths = length-set counts n (get_or counts n 0 + 1) ∙ lengths

pub counted_lengths : (counts : List ℕ) (list : List Text) (text : Text) → length counts ≡ length list → length (counted counts (position_of list text)) ≡ length (with_last list text)
counted_lengths counts list text lengths = counted_length counts list text (position_of list text) lengths

pub tells : (list : List Text) (counts : List ℕ) (text s : Text) (o : Option ℕ) → position_of list text ≡ o → length counts ≡ length list → count_at (counted counts o) (position_of (cond (is_some o) list (list ++ text ∷ [])) s) ≡ count_at counts (position_of list s) + cond (bytes_eq text s) 1 0
tells list counts text s None at lengths = tell_new list counts 1 text s (bytes_eq text s) (position_of list s) at lengths refl refl
tells list counts text s (Some n) at lengths = tell_old list counts 1 text s n (bytes_eq text s) (position_of list s) at lengths refl refl

pub counts_push : (texts list : List Text) (counts : List ℕ) (text : Text) → AreCounts texts list counts → AreCounts (texts ++ text ∷ []) (with_last list text) (counted counts (position_of list text))
counts_push texts list counts text are = record {
  list_is = list_push texts list text are.list_is;
  each = λ s.
      sum_by_push (λ t. cond (bytes_eq t s) 1 0) texts text ∙ ap (λ n. n + cond (bytes_eq text s) 1 0) (are.each s)
      ∙ sym (tells list counts text s (position_of list text) refl are.lengths);
  lengths = counted_lengths counts list text are.lengths;
  total = counted_total counts (position_of list text) (λ n at. inside list counts text n are.lengths at) ∙ ap (λ n. n + 1) are.total ∙ sym (length_push texts text);
}

-- ---- what the code adds to

added_at : (list : List Text) (counts : List ℕ) (text : Text) (n : ℕ) (o : Option ℕ) → length counts ≡ length list → position_of list text ≡ o → n ≡ interned_position list text → added counts n ≡ counted counts o
added_at list counts text n None lengths at is =
    let last : n ≡ length list = grind (arith) in grind (arith, nat_tests)
added_at list counts text n (Some k) lengths at is =
    let here : n ≡ k = grind (arith) in
    let small = inside list counts text k lengths at in grind (arith, nat_tests)

-- the count of the interned text is the one that grows
pub added_is_counted : (list : List Text) (counts : List ℕ) (text : Text) (n : ℕ) → length counts ≡ length list → n ≡ interned_position list text → added counts n ≡ counted counts (position_of list text)
added_is_counted list counts text n lengths is = added_at list counts text n (position_of list text) lengths refl is

pub place_of : (list : List Text) (counts : List ℕ) (text : Text) → length counts ≡ length list → IsPlace counts (position_of list text)
place_of list counts text lengths n at = inside list counts text n lengths at

-- ---- a text that is interned and counted

-- the counts after the text got its key
pub counted_is : (list : List Text) (counts reserved after : List ℕ) (text : Text) (n key : ℕ) → length counts ≡ length list → reserved ≡ counts → after ≡ added reserved n → n ≡ key - 1 → spur_at (interned_position list text) ≡ Some key → after ≡ counted counts (position_of list text)
counted_is list counts reserved after text n key lengths same is n_is key_is =
    let place : n ≡ interned_position list text = n_is ∙ sym (position_of_key (interned_position list text) key key_is) in
    is ∙ ap (λ cs. added cs n) same ∙ added_is_counted list counts text n lengths place

module _ (old new : InternerView) (counts after : List ℕ) (text : Text) (key : ℕ) (interns : InternsIn spur_at old text (Ok key) new) (lengths : length counts ≡ length old.texts) (is : after ≡ counted counts (position_of old.texts text)) where
  list_is : new.texts ≡ with_last old.texts text
  list_is = list_interned spur_at old new text key interns

  pub one_more_counted : (texts : List Text) → AreCounts texts old.texts counts → AreCounts (texts ++ text ∷ []) new.texts after
  one_more_counted texts are =
      subst (λ (ts : List Text). AreCounts (texts ++ text ∷ []) ts after) (sym list_is)
      (subst (λ (cs : List ℕ). AreCounts (texts ++ text ∷ []) (with_last old.texts text) cs) (sym is) (counts_push texts old.texts counts text are))

  pub one_more_lengths : length after ≡ length new.texts
  one_more_lengths = ap length is ∙ counted_lengths counts old.texts text lengths ∙ sym (ap length list_is)

  pub one_more_total : sum after ≡ sum counts + 1
  one_more_total = ap sum is ∙ counted_total counts (position_of old.texts text) (place_of old.texts counts text lengths)
