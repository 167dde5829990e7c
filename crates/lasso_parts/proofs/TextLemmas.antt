-- Lists of texts that grow by an absent text.
--
-- A text that `position` does not find differs from the text at each position. So a distinct list stays
-- distinct when the text goes last, and it fits the keys where its length has one.
use Rattle.std.proofs.Common.{ℕ, ◌≡◌, ◌<◌, ◌+◌, Bool, false, not, cond, List, [], ◌∷◌, ◌++◌, map, length, get_or, slice_get, take, Option, Some, None, IsSome, is_some, refl, ap, ◌∙◌, arith, below_more}
use Rattle.std.specs.List as lists
use Rattle.std.specs.Str.{bytes_eq}
use Rattle.std.proofs.lemmas.Grind.{common_steps}
use Rattle.std.proofs.lemmas.Bool.Decides.{nat_tests}
use Rattle.std.proofs.lemmas.List.{length_push, length-map, take_more}
use Rattle.std.proofs.lemmas.Option.{slice_get_within, get_or_from_slice_get, slice_get-get_or}
use Rattle.std.proofs.lemmas.List.Folds.{position_or_len_push}
use Rattle.std.proofs.lemmas.List.Sums.{fails_before_first, passes_at_first, prefix_len-le-length}
use Rattle.std.proofs.lemmas.Slice.Eq.{bytes_eq-Decides}
use Rattle.std.specs.Option.{option_and_then}
use Rattle.std.proofs.lemmas.List.Quantifiers.{position-Some}
use Rattle.std.proofs.lemmas.Map.Keys.{apart_from_distinct, IsDistinct-from_apart}
use Rattle.lasso_parts.specs.Texts.{Text, position_of, key_of, IsDistinct, Fits}

prefix_len-map : {X Y : Type 0} (p : Y → Bool) (f : X → Y) (xs : List X) → lists.prefix_len p (map f xs) ≡ lists.prefix_len (λ x. p (f x)) xs
prefix_len-map p f [] = refl
prefix_len-map p f (x ∷ xs) = ap (λ n. cond (p (f x)) (1 + n) 0) (prefix_len-map p f xs)

-- a search through the texts of a list is a search through the list
pub position_map : {X Y : Type 0} (p : Y → Bool) (f : X → Y) (xs : List X) → lists.position p (map f xs) ≡ lists.position (λ x. p (f x)) xs
position_map p f xs = rw (prefix_len-map (λ y. not (p y)) f xs, length-map xs f) refl

-- what a search does not find fails the test at each position
pub absent_at : {X : Type 0} (p : X → Bool) (xs : List X) (k : ℕ) (d : X) → lists.position p xs ≡ None → k < length xs → p (get_or xs k d) ≡ false
absent_at p xs k d none small = fails_before_first p xs k d (grind (arith, nat_tests))

-- a list stays distinct when an absent text goes last
pub distinct_push : (texts : List Text) (text : Text) → IsDistinct texts → position_of texts text ≡ None → IsDistinct (texts ++ text ∷ [])
distinct_push texts text distinct none =
    IsDistinct-from_apart bytes_eq (texts ++ text ∷ []) (λ i j d below inside. grind (arith, common_steps, apart_from_distinct bytes_eq texts i j d distinct, absent_at (λ t. bytes_eq t text) texts i d none, length_push texts text))

-- a list fits the keys with one text more, where its length has a key
pub fits_push : {K : Type 0} (key_at : ℕ → Option K) (n : ℕ) → Fits key_at n → IsSome (key_at n) → Fits key_at (n + 1)
fits_push key_at n fits more = below_more _ n fits more

present_of : {K : Type 0} (key_at : ℕ → Option K) (o : Option ℕ) (n : ℕ) → Fits key_at n → ((i : ℕ) → o ≡ Some i → i < n) → is_some (option_and_then key_at o) ≡ is_some o
present_of key_at None n fits within = refl
present_of key_at (Some i) n fits within = fits i (within i refl)

-- in a list that fits the keys, a present text has a key
pub key_of_present : {K : Type 0} (key_at : ℕ → Option K) (texts : List Text) (text : Text) → Fits key_at (length texts) → is_some (key_of key_at texts text) ≡ is_some (position_of texts text)
key_of_present key_at texts text fits = present_of key_at _ (length texts) fits (λ i e. (position-Some (λ t. bytes_eq t text) texts i [] e).0)

-- the texts before a position and the text there
pub take_more_at : (texts : List Text) (i : ℕ) (text : Text) → slice_get texts i ≡ Some text → take (i + 1) texts ≡ take i texts ++ text ∷ []
take_more_at texts i text at =
    take_more texts i [] (slice_get_within texts i text at) ∙ ap (λ (t : Text). take i texts ++ t ∷ []) (get_or_from_slice_get texts i text [] at)

-- a text is where it is found
pub position_here : (texts : List Text) (text : Text) (n : ℕ) → position_of texts text ≡ Some n → slice_get texts n ≡ Some text
position_here texts text n e = grind (arith, nat_tests, passes_at_first (λ t. bytes_eq t text) texts [], slice_get-get_or, bytes_eq-Decides)

-- an absent text that is put last is found last
pub position_last : (texts : List Text) (text : Text) → position_of texts text ≡ None → position_of (texts ++ text ∷ []) text ≡ Some (length texts)
position_last texts text none = grind (arith, nat_tests, prefix_len-le-length (λ t. not (bytes_eq t text)) texts, position_or_len_push (λ t. bytes_eq t text) texts text, length_push texts text, bytes_eq-Decides text text)
