-- Texts with their counts, one after the other, and in order.
use Rattle.std.proofs.Common.{ℕ, suc, ◌≡◌, ◌+◌, ◌<◌, ◌≤◌, List, [], ◌∷◌, ◌++◌, map, length, get_or, take, Some, Bool, refl, sym, ap, subst, ◌∙◌, arith}
use Rattle.std.specs.Prelude.{zip, IsSortedBy, IsPermutation, slice_get, sum, sum_by}
use Rattle.std.proofs.lemmas.List.{take_more, take_all, get_or-map, length-map}
use Rattle.std.proofs.lemmas.Option.{slice_get_within, get_or_from_slice_get}
use Rattle.std.specs.Str.{bytes_eq}
use Rattle.std.proofs.lemmas.List.Sorted.{sum_by-IsPermutation}
use Rattle.std.proofs.lemmas.List.Sums.{sum-map}
use Rattle.std.proofs.lemmas.Map.Keys.{IsDistinct-from_apart}
use Rattle.std.proofs.lemmas.Slice.Zip.{length-zip, get_or-zip, firsts-zip}
use Rattle.lasso_parts.proofs.IndexLaws.{position_of_at}
use Rattle.lasso_parts.specs.Texts.{Text, IsDistinct}
use Rattle.lasso_columns.specs.Counts.{AreCounts, count_of, count_at, counted_texts}
use Rattle.lasso_columns.proofs.Counted.{distinct_new}

-- sorted values stay sorted when they are mapped
pub sorted_map : {X Y : Type 0} (f : X → Y) (lt : Y → Y → Bool) (xs : List X) → IsSortedBy (λ a b. lt (f a) (f b)) xs → IsSortedBy lt (map f xs)
sorted_map f lt [] sorted = λ k d low small. absurd (omega (arith, small))
sorted_map f lt (x ∷ xs) sorted = λ k d low small.
    let many : length (map f (x ∷ xs)) ≡ length (x ∷ xs) = length-map (x ∷ xs) f in
    let next : k + 1 < length (x ∷ xs) = omega (arith, small, many) in
    let here : k < length (x ∷ xs) = omega (arith, next) in
    rw (get_or-map f (x ∷ xs) (k + 1) x d next, get_or-map f (x ∷ xs) k x d here) (sorted k x low next)

-- one text more, with its count
pub paired_push : (counts : List ℕ) (texts : List (List ℕ)) (pairs : List (ℕ × List ℕ)) (i : ℕ) (count : ℕ) (text : List ℕ) → pairs ≡ take i (zip counts texts) → i < length counts → count ≡ get_or counts i 0 → slice_get texts i ≡ Some text → pairs ++ (count, text) ∷ [] ≡ take (i + 1) (zip counts texts)
paired_push counts texts pairs i count text so_far small count_is text_is =
    let small' : i < length texts = slice_get_within texts i text text_is in
    let inside : i < length (zip counts texts) = grind (arith, length-zip counts texts) in
    let here : get_or (zip counts texts) i (0, []) ≡ (count, text) = get_or-zip counts texts i (0, []) small small' ∙ ap (λ (n : ℕ). (n, get_or texts i [])) (sym count_is) ∙ ap (λ (t : List ℕ). (count, t)) (get_or_from_slice_get texts i text [] text_is) in
    ap (λ (ps : List (ℕ × List ℕ)). ps ++ (count, text) ∷ []) so_far ∙ ap (λ (p : ℕ × List ℕ). take i (zip counts texts) ++ p ∷ []) (sym here) ∙ sym (take_more (zip counts texts) i (0, []) inside)

-- all of them
pub paired_all : (counts : List ℕ) (texts : List (List ℕ)) (pairs : List (ℕ × List ℕ)) (n : ℕ) → pairs ≡ take n (zip counts texts) → length counts ≤ n → pairs ≡ zip counts texts
paired_all counts texts pairs n so_far many =
    so_far ∙ take_all n (zip counts texts) (grind (arith, length-zip counts texts))

-- ---- each text with its count

no_text_twice : IsDistinct []
no_text_twice = IsDistinct-from_apart bytes_eq [] (λ i j d below inside. absurd (omega (arith, inside)))

zip_map : (f : Text → ℕ) (counts : List ℕ) (list : List Text) → length counts ≡ length list → ((k : ℕ) (text : Text) → slice_get list k ≡ Some text → get_or counts k 0 ≡ f text) → zip counts list ≡ map (λ text. (f text, text)) list
zip_map f [] [] lengths each = refl
zip_map f [] (t ∷ list) lengths each = absurd (omega (arith, lengths))
zip_map f (c ∷ counts) [] lengths each = absurd (omega (arith, lengths))
zip_map f (c ∷ counts) (t ∷ list) lengths each =
    ap (λ (n : ℕ). (n, t) ∷ zip counts list) (each 0 t refl)
    ∙ ap (λ (ps : List (ℕ × Text)). (f t, t) ∷ ps) (zip_map f counts list (omega (arith, lengths)) (λ k text at. each (suc k) text at))

-- the distinct texts with their counts
pub counted_pairs : (texts list : List Text) (counts : List ℕ) → AreCounts texts list counts → zip counts list ≡ counted_texts texts
counted_pairs texts list counts are =
    let distinct : IsDistinct list = subst IsDistinct (sym are.list_is) (distinct_new [] texts no_text_twice) in
    zip_map (count_of texts) counts list are.lengths (λ k text at. ap (count_at counts) (sym (position_of_at list text k distinct at)) ∙ sym (are.each text))
    ∙ ap (λ (ts : List Text). map (λ text. (count_of texts text, text)) ts) are.list_is

-- their counts are the counts
pub pairs_total : (counts : List ℕ) (list : List Text) (pairs : List (ℕ × Text)) → length counts ≡ length list → IsPermutation (zip counts list) pairs → sum_by (λ pair. pair.0) pairs ≡ sum counts
pairs_total counts list pairs lengths order =
    sum_by-IsPermutation (λ (pair : ℕ × Text). pair.0) (zip counts list) pairs order ∙ sym (sum-map (λ (pair : ℕ × Text). pair.0) (zip counts list))
    ∙ ap sum (firsts-zip counts list (sym lengths))
