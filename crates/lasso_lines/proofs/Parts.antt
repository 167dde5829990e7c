-- A list whose parts are permuted, each in its place.
--
-- The parts follow one another. So the first n parts together are permuted too, and enough parts are the
-- whole list.
use Rattle.std.proofs.Common.{ℕ, zero, suc, ◌≡◌, ◌+◌, ◌*◌, ◌<◌, ◌≤◌, List, [], ◌++◌, length, take, drop, refl, sym, ap, subst, ◌∙◌, append-nil, arith, add-one, mul-le-mul_left, mul-one, ◌⊎◌, inl, inr}
use Rattle.std.specs.Prelude.{IsPermutation}
use Rattle.std.specs.Fork.{slice_chunk}
use Rattle.std.proofs.Math.Seq.{take-add}
use Rattle.std.proofs.lemmas.Bool.{cases_lt}
use Rattle.std.proofs.lemmas.List.{take_all, drop_all}
use Rattle.std.proofs.lemmas.List.Sorted.{IsPermutation-refl, IsPermutation-append}

-- each part is permuted
abbrev pub PartsMove : {X : Type 0} → ℕ → List X → List X → Type 0
PartsMove size xs ys = (n : ℕ) → n * size < length xs → IsPermutation (slice_chunk xs size n) (slice_chunk ys size n)

one_more : {X : Type 0} (xs : List X) (n size : ℕ) → take ((n + 1) * size) xs ≡ take (n * size) xs ++ slice_chunk xs size n
one_more xs n size = let sum : (n + 1) * size ≡ n * size + size = omega arith in ap (λ k. take k xs) sum ∙ take-add (n * size) size xs

-- a part past the end is empty
past_end : {X : Type 0} (xs : List X) (n size : ℕ) → length xs ≤ n * size → slice_chunk xs size n ≡ []
past_end xs n size past = ap (take size) (drop_all (n * size) xs past) ∙ none size
  where
    none : {X : Type 0} (k : ℕ) → take {A = X} k [] ≡ []
    none zero = refl
    none (suc k) = refl

module _ {X : Type 0} (size : ℕ) (xs ys : List X) (long : length ys ≡ length xs) (each : PartsMove size xs ys) where
  part_moves : (n : ℕ) → (n * size < length xs) ⊎ (length xs ≤ n * size) → IsPermutation (slice_chunk xs size n) (slice_chunk ys size n)
  part_moves n (inl within) = each n within
  part_moves n (inr past) =
      let none : slice_chunk xs size n ≡ [] = past_end xs n size past in
      let none' : slice_chunk ys size n ≡ [] = past_end ys n size (omega arith) in
      rw (none, none') (IsPermutation-refl [])

  first_parts : (n : ℕ) → IsPermutation (take (n * size) xs) (take (n * size) ys)
  first_parts zero = let none : 0 * size ≡ 0 = omega arith in subst (λ k. IsPermutation (take k xs) (take k ys)) (sym none) (IsPermutation-refl [])
  first_parts (suc n) =
      let more = IsPermutation-append _ _ _ _ (first_parts n) (part_moves n (cases_lt (n * size) (length xs))) in
      let next : suc n * size ≡ (n + 1) * size = ap (λ k. k * size) (sym (add-one n)) in
      rw (next, one_more xs n size, one_more ys n size) more

  -- so the whole list is permuted
  pub parts_move : 0 < size → IsPermutation xs ys
  parts_move some =
      let enough : length xs ≤ length xs * size = omega (arith, mul-le-mul_left {m = 1} {n = size} (length xs) some, mul-one (length xs)) in
      let moved = first_parts (length xs) in
      let whole : take (length xs * size) xs ≡ xs = take_all (length xs * size) xs enough in
      let whole' : take (length xs * size) ys ≡ ys = take_all (length xs * size) ys (omega arith) in
      subst (λ zs. IsPermutation xs zs) whole' (subst (λ zs. IsPermutation zs (take (length xs * size) ys)) whole moved)

-- a vector whose elements were lent as a slice of the same length has the slice's elements afterwards
pub lent_back : {X : Type 0} (n : ℕ) (xs ys : List X) → n ≡ length ys → length xs ≡ length ys → take n (xs ++ drop (length xs) ys) ≡ xs
lent_back n xs ys whole long =
    let none : drop (length xs) ys ≡ [] = drop_all (length xs) ys (omega arith) in
    ap (λ zs. take n (xs ++ zs)) none ∙ ap (take n) (append-nil xs) ∙ take_all n xs (omega arith)
