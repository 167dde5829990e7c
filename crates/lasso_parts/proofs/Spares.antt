-- The smallest spare that has room for a text, found by its size in the sum of the spares, is the first region without bytes that
-- has that room.
--
-- The regions are of sizes z, 2z, 4z, ... What is below z in the sum is smaller spares; the regions after the
-- first one add up to a multiple of 2z; so past the multiples of 2z the sum is what is below z and the first
-- region's part.
use Rattle.std.proofs.Common.{◌≡◌, ℕ, zero, suc, ◌+◌, ◌*◌, ◌%◌, ◌<◌, ◌≤◌, ◌⊎◌, inl, inr, List, [], ◌∷◌, length, Some, None, sym, ap, refl, ◌∙◌, arith}
use Rattle.std.specs.Prelude.{nat_le, ◌&&◌, true, false}
use Rattle.std.proofs.lemmas.Nat.{mod-mul-add}
use Rattle.std.proofs.Math.Nat.{mod-eq_of_lt}
use Rattle.std.proofs.lemmas.Bool.Decides.{nat_tests}
use Rattle.std.proofs.lemmas.Bool.{cases_eq, cases_lt}
use Rattle.lasso_parts.specs.Account.{smallest_spare, has_spare}
use Rattle.lasso_parts.specs.Bucket.{Extent}
use Rattle.lasso_parts.specs.Arena.{region_at, spare_part, spare_in}
use Rattle.lasso_parts.specs.Doubled.{AreDoubled, next_of, CannotTake, IsFirstToTake, NoneTakes}
use Rattle.lasso_parts.proofs.Doubled.{next_hit, part_within, part_empty, part_filled, spare_cons, spare_multiple}

-- the sum past the multiples of twice the first size
rest_at : (z low : ℕ) (r : Extent) (rs : List Extent) → 0 < z → low < z → AreDoubled z (r ∷ rs) → (low + spare_in (r ∷ rs)) % (2 * z) ≡ low + spare_part r
rest_at z low r rs some small h =
    let q = spare_multiple (2 * z) rs h.1 in
    let part = part_within r in
    let whole : low + spare_in (r ∷ rs) ≡ q.0 * (2 * z) + (low + spare_part r) = omega (arith, spare_cons r rs, q.1) in
    ap (λ (n : ℕ). n % (2 * z)) whole ∙ mod-mul-add q.0 (2 * z) (low + spare_part r) (omega (arith, part, h.0, small))

-- one size further
fewer : (z m : ℕ) (r : Extent) (rs : List Extent) → 0 < z → AreDoubled z (r ∷ rs) → spare_in (r ∷ rs) ≤ suc m * z → spare_in rs ≤ m * (2 * z)
fewer z m r rs some h within =
    let q = spare_multiple (2 * z) rs h.1 in
    let sum = spare_cons r rs in
    at q.0 m (omega (arith, sum, q.1)) q.1
  where
    at : (q m : ℕ) → q * (2 * z) ≤ suc m * z → spare_in rs ≡ q * (2 * z) → spare_in rs ≤ m * (2 * z)
    at zero m bound is = grind (arith, is)
    at (suc q) zero bound is = absurd (grind (arith, bound, some))
    at (suc q) (suc m) bound is = grind (arith, bound, is)

passed : (n z low : ℕ) (sizes : ℕ) (r : Extent) (rs : List Extent) → 0 < z → low < z → AreDoubled z (r ∷ rs) → CannotTake n r
    → smallest_spare (suc sizes) z (low + spare_in (r ∷ rs)) n ≡ smallest_spare sizes (2 * z) ((low + spare_part r) + spare_in rs) n
passed n z low sizes r rs some small h cannot =
    let rest = rest_at z low r rs some small h in
    let sum : low + spare_in (r ∷ rs) ≡ (low + spare_part r) + spare_in rs = omega (arith, spare_cons r rs) in
    let test : has_spare (low + spare_in (r ∷ rs)) z && nat_le n z ≡ false =
    elim cannot [
      | inl filled ↦ let none = part_filled r filled in grind (arith, nat_tests, rest, none, small)
      | inr short ↦ grind (arith, nat_tests, short, h.0)
    ] in
    rw test (ap (λ (s : ℕ). smallest_spare sizes (2 * z) s n) sum)

-- below the sizes that are tried there is none
below : (sizes z low n : ℕ) → low < z → smallest_spare sizes z low n ≡ None
below zero z low n small = refl
below (suc sizes) z low n small =
    let rest : low % (2 * z) ≡ low = mod-eq_of_lt (omega (arith, small)) in
    let test : has_spare low z && nat_le n z ≡ false = grind (arith, nat_tests, rest, small) in
    rw test (below sizes (2 * z) low n (omega (arith, small)))

later : (n : ℕ) (r : Extent) (rs : List Extent) (i : ℕ) → IsFirstToTake n (r ∷ rs) (suc i) → IsFirstToTake n rs i
later n r rs i is = record { inside = omega (arith, is.inside); takes = is.takes; before = λ k small. is.before (suc k) (omega (arith, small)) }

pub found_first : (n : ℕ) (sizes z low : ℕ) (rs : List Extent) (i : ℕ) → 0 < z → low < z → AreDoubled z rs → spare_in rs ≤ sizes * z → IsFirstToTake n rs i
    → smallest_spare sizes z (low + spare_in rs) n ≡ Some (region_at rs i).capacity
found_first n sizes z low [] i some small h within is = absurd (omega (arith, is.inside))
found_first n zero z low (r ∷ rs) zero some small h within is =
    let sum = spare_cons r rs in let part = part_empty r is.takes.0 in absurd (omega (arith, sum, part, h.0, within, some))
found_first n (suc sizes) z low (r ∷ rs) zero some small h within is =
    let rest = rest_at z low r rs some small h in
    let part = part_empty r is.takes.0 in
    let test : has_spare (low + spare_in (r ∷ rs)) z && nat_le n z ≡ true = grind (arith, nat_tests, rest, part, h.0, is.takes.1) in
    rw test (ap (λ (c : ℕ). Some c) (sym h.0))
found_first n zero z low (r ∷ rs) (suc i) some small h within is =
    let sum = spare_cons r rs in
    found_first n zero (2 * z) (low + spare_part r) rs i (omega (arith, some)) (omega (arith, part_within r, h.0, small)) h.1 (omega (arith, sum, within)) (later n r rs i is)
found_first n (suc sizes) z low (r ∷ rs) (suc i) some small h within is =
    passed n z low sizes r rs some small h (is.before 0 (omega arith))
    ∙ found_first n sizes (2 * z) (low + spare_part r) rs i (omega (arith, some)) (omega (arith, part_within r, h.0, small)) h.1 (fewer z sizes r rs some h within) (later n r rs i is)

pub found_none : (n : ℕ) (sizes z low : ℕ) (rs : List Extent) → 0 < z → low < z → AreDoubled z rs → spare_in rs ≤ sizes * z → NoneTakes n rs
    → smallest_spare sizes z (low + spare_in rs) n ≡ None
found_none n sizes z low [] some small h within none =
    let same : low + 0 ≡ low = omega arith in
    ap (λ (s : ℕ). smallest_spare sizes z s n) same ∙ below sizes z low n small
found_none n zero z low (r ∷ rs) some small h within none = refl
found_none n (suc sizes) z low (r ∷ rs) some small h within none =
    passed n z low sizes r rs some small h (none 0 (omega arith))
    ∙ found_none n sizes (2 * z) (low + spare_part r) rs (omega (arith, some)) (omega (arith, part_within r, h.0, small)) h.1 (fewer z sizes r rs some h within) (λ k inside. none (suc k) (omega (arith, inside)))

-- ---- the greatest size

-- spares of less than half of the next size miss that half, and are at least the first size less
pub spare_short : (z : ℕ) (r : Extent) (rs : List Extent) → AreDoubled z (r ∷ rs) → 2 * spare_in (r ∷ rs) < next_of z (r ∷ rs) → 2 * spare_in (r ∷ rs) + 2 * z ≤ next_of z (r ∷ rs)
spare_short z r [] h short =
    let sum = spare_cons r [] in let hit = next_hit z r [] h.0 in
    elim (cases_eq (length r.bytes) 0) [
      | inl e ↦ omega (arith, sum, hit, part_empty r e, h.0, short)
      | inr ne ↦ omega (arith, sum, hit, part_filled r (omega (arith, ne)), short)
    ]
spare_short z r (x ∷ xs) h short =
    let sum = spare_cons r (x ∷ xs) in let hit = next_hit z r (x ∷ xs) h.0 in
    let others = spare_short (2 * z) x xs h.1 (omega (arith, sum, hit, short)) in
    omega (arith, sum, hit, others, part_within r, h.0)

-- where no spare has n bytes, the greatest size is no spare, or has fewer
pub none_greatest : (n z : ℕ) (rs : List Extent) → 0 < z → AreDoubled z rs → NoneTakes n rs → next_of z rs ≤ 2 * spare_in rs → next_of z rs < 2 * n
none_greatest n z [] some h none great = absurd (omega (arith, great, some))
none_greatest n z (r ∷ []) some h none great =
    let sum = spare_cons r [] in let hit = next_hit z r [] h.0 in
    elim (none 0 (omega arith)) [
      | inl filled ↦ absurd (omega (arith, sum, hit, part_filled r filled, great, some))
      | inr short ↦ omega (arith, hit, short, h.0)
    ]
none_greatest n z (r ∷ x ∷ xs) some h none great =
    let sum = spare_cons r (x ∷ xs) in let hit = next_hit z r (x ∷ xs) h.0 in
    let part = part_within r in
    let all : next_of (2 * z) (x ∷ xs) ≤ 2 * spare_in (x ∷ xs) =
    elim (cases_lt (2 * spare_in (x ∷ xs)) (next_of (2 * z) (x ∷ xs))) [
      | inl low ↦ absurd (omega (arith, spare_short (2 * z) x xs h.1 low, sum, hit, part, h.0, great, some))
      | inr high ↦ omega (arith, high)
    ] in
    let others = none_greatest n (2 * z) (x ∷ xs) (omega (arith, some)) h.1 (λ k inside. none (suc k) (omega (arith, inside))) all in
    omega (arith, hit, others)

-- a spare is the greatest size, or it is a spare and the greatest another, or the greatest is none
pub first_apart : (n z : ℕ) (rs : List Extent) (i : ℕ) → 0 < z → AreDoubled z rs → IsFirstToTake n rs i
    → ((region_at rs i).capacity ≤ spare_in rs) × ((2 * (region_at rs i).capacity ≡ next_of z rs) ⊎ ((2 * spare_in rs < next_of z rs) ⊎ (2 * (region_at rs i).capacity + next_of z rs ≤ 2 * spare_in rs)))
first_apart n z [] i some h is = absurd (omega (arith, is.inside))
first_apart n z (r ∷ []) zero some h is =
    let sum = spare_cons r [] in let hit = next_hit z r [] h.0 in let part = part_empty r is.takes.0 in
    (omega (arith, sum, part), inl (omega (arith, hit, h.0)))
first_apart n z (r ∷ []) (suc i) some h is = absurd (omega (arith, is.inside))
first_apart n z (r ∷ x ∷ xs) zero some h is =
    let sum = spare_cons r (x ∷ xs) in let hit = next_hit z r (x ∷ xs) h.0 in let part = part_empty r is.takes.0 in (
      omega (arith, sum, part),
      inr (elim (cases_lt (2 * spare_in (x ∷ xs)) (next_of (2 * z) (x ∷ xs))) [
        | inl low ↦ inl (omega (arith, spare_short (2 * z) x xs h.1 low, sum, hit, part, h.0, some))
        | inr high ↦ inr (omega (arith, high, sum, hit, part, h.0))
      ]),
    )
first_apart n z (r ∷ x ∷ xs) (suc i) some h is =
    let sum = spare_cons r (x ∷ xs) in let hit = next_hit z r (x ∷ xs) h.0 in let part = part_within r in
    let others = first_apart n (2 * z) (x ∷ xs) i (omega (arith, some)) h.1 (later n r (x ∷ xs) i is) in (
      omega (arith, sum, others.0),
      elim others.1 [
        | inl top ↦ inl (omega (arith, top, hit))
        | inr (inl low) ↦ inr (inl (omega (arith, spare_short (2 * z) x xs h.1 low, sum, hit, part, h.0, some)))
        | inr (inr high) ↦ inr (inr (omega (arith, high, sum, hit)))
      ],
    )
