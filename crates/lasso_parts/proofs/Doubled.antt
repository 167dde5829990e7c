-- Lists of regions of which each is twice as large as the one before, and what a clear keeps of a list of regions.
--
-- Sizes z, 2z, 4z, .. up to half of T add up to T less z. So where the spares among them add up to less than half of T, half of T is
-- not among them, and they add up to at least z less than that half; and where they add up to at least that, it is.
use Rattle.std.proofs.Common.{◌≡◌, ℕ, zero, suc, ◌+◌, ◌*◌, ◌<◌, ◌≤◌, ◌⊎◌, inl, inr, List, [], ◌∷◌, ◌++◌, length, set, take, map, sym, ap, subst, refl, ◌∙◌, arith}
use Rattle.std.proofs.lemmas.Grind.{common_steps}
use Rattle.std.proofs.lemmas.Bool.Decides.{nat_tests}
use Rattle.std.proofs.lemmas.Bool.{cases_eq}
use Rattle.std.proofs.lemmas.List.Sums.{sum_by-cons}
use Rattle.lasso_parts.specs.Bucket.{Extent}
use Rattle.lasso_parts.specs.Arena.{region_at, emptied, with_bytes, usage_of, spare_part, spare_in}
use Rattle.lasso_parts.specs.Doubled.{AreDoubled, doubled_from, next_of}

-- ---- the next size

pub next_hit : (z : ℕ) (r : Extent) (rs : List Extent) → r.capacity ≡ z → next_of z (r ∷ rs) ≡ next_of (2 * z) rs
next_hit z r rs e = grind (arith, nat_tests, e)

pub next_miss : (z : ℕ) (r : Extent) (rs : List Extent) → (r.capacity ≡ z → ⊥) → next_of z (r ∷ rs) ≡ next_of z rs
next_miss z r rs ne = grind (arith, nat_tests, ne)

-- it is the same, or at least twice as large
pub next_grown : (z : ℕ) (rs : List Extent) → (next_of z rs ≡ z) ⊎ (2 * z ≤ next_of z rs)
next_grown z [] = inl refl
next_grown z (r ∷ rs) =
    elim (cases_eq r.capacity z) [
      | inl e ↦ let h = next_hit z r rs e in let more = next_grown (2 * z) rs in inr (grind (arith, h, more))
      | inr ne ↦ let h = next_miss z r rs ne in subst (λ (t : ℕ). (t ≡ z) ⊎ (2 * z ≤ t)) (sym h) (next_grown z rs)
    ]

-- after two lists
pub next_append : (z : ℕ) (xs ys : List Extent) → next_of z (xs ++ ys) ≡ next_of (next_of z xs) ys
next_append z [] ys = refl
next_append z (r ∷ rs) ys =
    elim (cases_eq r.capacity z) [
      | inl e ↦ next_hit z r (rs ++ ys) e ∙ next_append (2 * z) rs ys ∙ ap (λ (t : ℕ). next_of t ys) (sym (next_hit z r rs e))
      | inr ne ↦ next_miss z r (rs ++ ys) ne ∙ next_append z rs ys ∙ ap (λ (t : ℕ). next_of t ys) (sym (next_miss z r rs ne))
    ]

-- more bytes change no size
pub next_set : (z : ℕ) (rs : List Extent) (j : ℕ) (t : List ℕ) → next_of z (set rs j (with_bytes (region_at rs j) t)) ≡ next_of z rs
next_set z [] j t = refl
next_set z (r ∷ rs) zero t = refl
next_set z (r ∷ rs) (suc j) t =
    elim (cases_eq r.capacity z) [
      | inl e ↦ next_hit z r (set rs j (with_bytes (region_at rs j) t)) e ∙ next_set (2 * z) rs j t ∙ sym (next_hit z r rs e)
      | inr ne ↦ next_miss z r (set rs j (with_bytes (region_at rs j) t)) ne ∙ next_set z rs j t ∙ sym (next_miss z r rs ne)
    ]

-- ---- sums

-- doubled sizes add up to the next one less the first
pub usage_doubled : (z : ℕ) (rs : List Extent) → AreDoubled z rs → usage_of rs + z ≡ next_of z rs
usage_doubled z [] h = omega arith
usage_doubled z (r ∷ rs) h =
    let sum = sum_by-cons (λ (x : Extent). x.capacity) r rs in
    let hit = next_hit z r rs h.0 in
    let others = usage_doubled (2 * z) rs h.1 in
    omega (arith, sum, hit, others, h.0)

pub part_within : (r : Extent) → spare_part r ≤ r.capacity
part_within r = grind (arith, nat_tests)

pub part_empty : (r : Extent) → length r.bytes ≡ 0 → spare_part r ≡ r.capacity
part_empty r e = grind (arith, nat_tests, e)

pub part_filled : (r : Extent) → 0 < length r.bytes → spare_part r ≡ 0
part_filled r h = grind (arith, nat_tests, h)

pub spare_cons : (r : Extent) (rs : List Extent) → spare_in (r ∷ rs) ≡ spare_part r + spare_in rs
spare_cons r rs = sum_by-cons spare_part r rs

-- the spares are a part of all
pub spare_within : (rs : List Extent) → spare_in rs ≤ usage_of rs
spare_within [] = omega arith
spare_within (r ∷ rs) =
    let sum = sum_by-cons (λ (x : Extent). x.capacity) r rs in
    let spares = spare_cons r rs in
    let part = part_within r in
    let others = spare_within rs in
    omega (arith, sum, spares, part, others)

-- a part of doubled sizes is a multiple of the first
pub spare_multiple : (z : ℕ) (rs : List Extent) → AreDoubled z rs → (q : ℕ) × (spare_in rs ≡ q * z)
spare_multiple z [] h = (0, omega arith)
spare_multiple z (r ∷ rs) h =
    let others = spare_multiple (2 * z) rs h.1 in
    let sum = spare_cons r rs in
    elim (cases_eq (length r.bytes) 0) [
      | inl e ↦ (1 + 2 * others.0, grind (arith, sum, others.1, part_empty r e, h.0))
      | inr ne ↦ (2 * others.0, grind (arith, sum, others.1, part_filled r (omega (arith, ne))))
    ]

-- ---- more bytes in one region

-- what is no spare stays none
pub part_more : (r : Extent) (t : List ℕ) → spare_part r ≡ 0 → spare_part (with_bytes r t) ≡ 0
part_more r t h = grind (arith, common_steps, nat_tests, h)

pub part_taken : (r : Extent) (t : List ℕ) → 0 < length t → spare_part (with_bytes r t) ≡ 0
part_taken r t h = grind (arith, common_steps, nat_tests, h)

-- sizes stay
pub doubled_set : (z m : ℕ) (rs : List Extent) (j : ℕ) (t : List ℕ) → AreDoubled z (take m rs) → AreDoubled z (take m (set rs j (with_bytes (region_at rs j) t)))
doubled_set z zero rs j t h = tt
doubled_set z (suc m) [] j t h = tt
doubled_set z (suc m) (r ∷ rs) zero t h = h
doubled_set z (suc m) (r ∷ rs) (suc j) t h = (h.0, doubled_set (2 * z) m rs j t h.1)

-- the spares stay where the bytes go to another region, or to one that is no spare
pub spare_set : (m : ℕ) (rs : List Extent) (j : ℕ) (t : List ℕ) → (m ≤ j) ⊎ (spare_part (region_at rs j) ≡ 0) → spare_in (take m (set rs j (with_bytes (region_at rs j) t))) ≡ spare_in (take m rs)
spare_set zero rs j t h = refl
spare_set (suc m) [] j t h = refl
spare_set (suc m) (r ∷ rs) zero t h =
    let none : spare_part r ≡ 0 = elim h [ inl low ↦ absurd (omega (arith, low)) | inr e ↦ e ] in
    spare_cons (with_bytes r t) (take m rs) ∙ ap (λ (n : ℕ). n + spare_in (take m rs)) (part_more r t none ∙ sym none) ∙ sym (spare_cons r (take m rs))
spare_set (suc m) (r ∷ rs) (suc j) t h =
    let later : (m ≤ j) ⊎ (spare_part (region_at rs j) ≡ 0) = elim h [ inl low ↦ inl (omega (arith, low)) | inr e ↦ inr e ] in
    spare_cons r (take m (set rs j (with_bytes (region_at rs j) t))) ∙ ap (λ (n : ℕ). spare_part r + n) (spare_set m rs j t later) ∙ sym (spare_cons r (take m rs))

-- a spare that gets bytes is none any more
pub spare_taken : (m : ℕ) (rs : List Extent) (j : ℕ) (t : List ℕ) → j < m → j < length rs → length (region_at rs j).bytes ≡ 0 → 0 < length t
    → spare_in (take m (set rs j (with_bytes (region_at rs j) t))) + (region_at rs j).capacity ≡ spare_in (take m rs)
spare_taken zero rs j t below inside e some = absurd (omega (arith, below))
spare_taken (suc m) [] j t below inside e some = absurd (omega (arith, inside))
spare_taken (suc m) (r ∷ rs) zero t below inside e some =
    let new = spare_cons (with_bytes r t) (take m rs) in
    let old = spare_cons r (take m rs) in
    omega (arith, new, old, part_taken r t some, part_empty r e)
spare_taken (suc m) (r ∷ rs) (suc j) t below inside e some =
    let new = spare_cons r (take m (set rs j (with_bytes (region_at rs j) t))) in
    let old = spare_cons r (take m rs) in
    let others = spare_taken m rs j t (omega (arith, below)) (omega (arith, inside)) e some in
    omega (arith, new, old, others)

-- ---- what a clear keeps

pub from_hit : (z : ℕ) (r : Extent) (rs : List Extent) → r.capacity ≡ z → doubled_from z (r ∷ rs) ≡ r ∷ doubled_from (2 * z) rs
from_hit z r rs e = grind (arith, nat_tests, e)

pub from_miss : (z : ℕ) (r : Extent) (rs : List Extent) → (r.capacity ≡ z → ⊥) → doubled_from z (r ∷ rs) ≡ doubled_from z rs
from_miss z r rs ne = grind (arith, nat_tests, ne)

pub kept_doubled : (z : ℕ) (rs : List Extent) → AreDoubled z (map emptied (doubled_from z rs))
kept_doubled z [] = tt
kept_doubled z (r ∷ rs) =
    elim (cases_eq r.capacity z) [
      | inl e ↦ subst (λ (l : List Extent). AreDoubled z (map emptied l)) (sym (from_hit z r rs e)) (e, kept_doubled (2 * z) rs)
      | inr ne ↦ subst (λ (l : List Extent). AreDoubled z (map emptied l)) (sym (from_miss z r rs ne)) (kept_doubled z rs)
    ]

pub kept_next : (z : ℕ) (rs : List Extent) → next_of z (map emptied (doubled_from z rs)) ≡ next_of z rs
kept_next z [] = refl
kept_next z (r ∷ rs) =
    elim (cases_eq r.capacity z) [
      | inl e ↦ ap (λ (l : List Extent). next_of z (map emptied l)) (from_hit z r rs e) ∙ next_hit z (emptied r) (map emptied (doubled_from (2 * z) rs)) e ∙ kept_next (2 * z) rs ∙ sym (next_hit z r rs e)
      | inr ne ↦ ap (λ (l : List Extent). next_of z (map emptied l)) (from_miss z r rs ne) ∙ kept_next z rs ∙ sym (next_miss z r rs ne)
    ]

-- emptied regions are spares
pub spare_emptied : (rs : List Extent) → spare_in (map emptied rs) ≡ usage_of (map emptied rs)
spare_emptied [] = refl
spare_emptied (r ∷ rs) =
    spare_cons (emptied r) (map emptied rs) ∙ ap (λ (n : ℕ). r.capacity + n) (spare_emptied rs) ∙ sym (sum_by-cons (λ (x : Extent). x.capacity) (emptied r) (map emptied rs))
