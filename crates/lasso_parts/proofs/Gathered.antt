-- What a clear keeps, gathered at the front of the list by exchanging two of them at a time.
--
-- At each step what is gathered, and what is kept of the rest after it, are the kept regions of the whole
-- list. An exchange puts the current region after those gathered, and a region that is not kept in its place,
-- which the walk has passed.
use Rattle.std.proofs.Common.{◌≡◌, ℕ, zero, suc, ◌+◌, ◌*◌, ◌<◌, ◌≤◌, inl, inr, List, [], ◌∷◌, ◌++◌, length, get_or, set, take, drop, map, sym, ap, subst, refl, ◌∙◌, arith, append_assoc}
use Rattle.std.proofs.lemmas.Bool.{cases_eq}
use Rattle.std.proofs.lemmas.List.{take-set, take-set-le, take_more_set, drop-set-lt, drop_more, map-set, length-set, length-map}
use Rattle.std.proofs.lemmas.List.Edits.{swap_is}
use Rattle.std.specs.List.{swap}
use Rattle.lasso_parts.specs.Bucket.{Extent, Block, block_of}
use Rattle.std.proofs.lemmas.List.Sums.{sum_by-cons}
use Rattle.lasso_parts.specs.Arena.{no_region, region_at, usage_of}
use Rattle.lasso_parts.specs.Doubled.{doubled_from}
use Rattle.lasso_parts.proofs.Doubled.{from_hit, from_miss}

-- what is gathered of a list ys, where `kept` regions are in front, the last of this size, and the walk has
-- come to `at`
abbrev pub gathered : List Extent → ℕ → ℕ → ℕ → List Extent
gathered ys kept last at = take kept ys ++ doubled_from (2 * last) (drop at ys)

-- a region that is not kept
pub gathered_pass : (ys : List Extent) (kept last at : ℕ) → at < length ys → ((region_at ys at).capacity ≡ 2 * last → ⊥) → gathered ys kept last (at + 1) ≡ gathered ys kept last at
gathered_pass ys kept last at inside ne =
    ap (λ (l : List Extent). take kept ys ++ l) (sym (ap (doubled_from (2 * last)) (drop_more ys at no_region inside) ∙ from_miss (2 * last) (region_at ys at) (drop (at + 1) ys) ne))

-- two exchanged
swap_take : (ys : List Extent) (kept at : ℕ) → kept ≤ at → at < length ys → take (kept + 1) (swap ys kept at) ≡ take kept ys ++ region_at ys at ∷ []
swap_take ys kept at below inside =
    let x = region_at ys kept in let y = region_at ys at in
    let is = swap_is ys kept at no_region (omega (arith, below, inside)) inside in
    ap (take (kept + 1)) (sym is) ∙ elim (cases_eq kept at) [
      | inl e ↦ subst (λ (k : ℕ). take (kept + 1) (set (set ys kept y) k x) ≡ take kept ys ++ y ∷ []) e
          (take_more_set (set ys kept y) kept x (omega (arith, length-set ys kept y, below, inside)) ∙ ap (λ (l : List Extent). l ++ x ∷ []) (take-set ys kept y) ∙ ap (λ (k : ℕ). take kept ys ++ region_at ys k ∷ []) e)
      | inr ne ↦ take-set-le (kept + 1) (set ys kept y) at x (omega (arith, ne, below)) ∙ take_more_set ys kept y (omega (arith, below, inside))
    ]

swap_drop : (ys : List Extent) (kept at : ℕ) → kept ≤ at → at < length ys → drop (at + 1) (swap ys kept at) ≡ drop (at + 1) ys
swap_drop ys kept at below inside =
    let x = region_at ys kept in let y = region_at ys at in
    let is = swap_is ys kept at no_region (omega (arith, below, inside)) inside in
    ap (drop (at + 1)) (sym is) ∙ drop-set-lt (at + 1) (set ys kept y) at x (omega arith) ∙ drop-set-lt (at + 1) ys kept y (omega (arith, below))

-- a region that is kept
pub gathered_more : (ys zs : List Extent) (kept last size at : ℕ) → kept ≤ at → at < length ys → size ≡ (region_at ys at).capacity → size ≡ 2 * last → zs ≡ swap ys kept at → gathered zs (kept + 1) size (at + 1) ≡ gathered ys kept last at
gathered_more ys zs kept last size at below inside here e is =
    let y = region_at ys at in
    let rest = drop (at + 1) ys in
    let now : doubled_from (2 * last) (drop at ys) ≡ y ∷ doubled_from (2 * (2 * last)) rest = ap (doubled_from (2 * last)) (drop_more ys at no_region inside) ∙ from_hit (2 * last) y rest (sym here ∙ e) in
    ap (λ (l : List Extent). gathered l (kept + 1) size (at + 1)) is
    ∙ ap (λ (l : List Extent). l ++ doubled_from (2 * size) (drop (at + 1) (swap ys kept at))) (swap_take ys kept at below inside)
    ∙ ap (λ (l : List Extent). (take kept ys ++ y ∷ []) ++ doubled_from (2 * size) l) (swap_drop ys kept at below inside)
    ∙ ap (λ (n : ℕ). (take kept ys ++ y ∷ []) ++ doubled_from (2 * n) rest) e
    ∙ append_assoc (take kept ys) (y ∷ []) (doubled_from (2 * (2 * last)) rest)
    ∙ ap (λ (l : List Extent). take kept ys ++ l) (sym now)

-- an element read, whatever is read past the end
pub read_is : (ys : List Extent) (at : ℕ) (r : Extent) → at < length ys → r ≡ get_or ys at r → r ≡ region_at ys at
read_is [] at r inside is = absurd (omega (arith, inside))
read_is (y ∷ ys) zero r inside is = is
read_is (y ∷ ys) (suc at) r inside is = read_is ys at r (omega (arith, inside)) is

-- capacities so far and one more are no more than all
pub usage_fits : (ys : List Extent) (at : ℕ) (r : Extent) → at < length ys → r ≡ get_or ys at r → usage_of (take at ys) + r.capacity ≤ usage_of ys
usage_fits [] at r inside is = absurd (omega (arith, inside))
usage_fits (y ∷ ys) zero r inside is = omega (arith, ap (λ (x : Extent). x.capacity) is, sum_by-cons (λ (x : Extent). x.capacity) y ys)
usage_fits (y ∷ ys) (suc at) r inside is = omega (arith, sum_by-cons (λ (x : Extent). x.capacity) y ys, sum_by-cons (λ (x : Extent). x.capacity) y (take at ys), usage_fits ys at r (omega (arith, inside)) is)

-- the rights are exchanged likewise
pub swap_blocks : (ys : List Extent) (i j : ℕ) → i < length ys → j < length ys → map block_of (swap ys i j) ≡ swap (map block_of ys) i j
swap_blocks ys i j below inside =
    let d = block_of no_region in
    let count = length-map ys block_of in
    ap (map block_of) (sym (swap_is ys i j no_region below inside))
    ∙ map-set block_of (set ys i (region_at ys j)) j (region_at ys i)
    ∙ ap (λ (l : List Block). set l j (block_of (region_at ys i))) (map-set block_of ys i (region_at ys j))
    ∙ ap (λ (b : Block). set (set (map block_of ys) i b) j (block_of (region_at ys i))) (block_at ys j)
    ∙ ap (λ (b : Block). set (set (map block_of ys) i (get_or (map block_of ys) j d)) j b) (block_at ys i)
    ∙ swap_is (map block_of ys) i j d (omega (arith, count, below)) (omega (arith, count, inside))
  where
    block_at : (l : List Extent) (k : ℕ) → block_of (region_at l k) ≡ get_or (map block_of l) k (block_of no_region)
    block_at [] k = refl
    block_at (r ∷ rs) zero = refl
    block_at (r ∷ rs) (suc k) = block_at rs k
