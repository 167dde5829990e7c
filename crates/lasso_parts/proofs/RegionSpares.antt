-- What the search for a spare among an arena's regions says of the account.
--
-- The regions that the last clear made spares have twice, four times .. the first region's size, up to the doubling size of that time.
-- The doubling size of now is that, or at least twice that; and then all spares have fewer bytes together.
use Rattle.std.proofs.Common.{◌≡◌, ℕ, zero, suc, ◌+◌, ◌-◌, ◌*◌, ◌<◌, ◌≤◌, ◌⊎◌, inl, inr, List, [], ◌∷◌, length, take, drop, Some, None, sym, ap, subst, refl, ◌∙◌, arith}
use Rattle.std.specs.Prelude.{slice_range}
use Rattle.std.proofs.lemmas.List.{get_or-take, take-append-drop}
use Rattle.lasso_parts.specs.Account.{spare_for, smallest_spare}
use Rattle.lasso_parts.specs.Bucket.{Extent}
use Rattle.lasso_parts.specs.Arena.{Regions, no_region, region_at, first_of, spare_in, spares_at_clear, spare_of, account_of}
use Rattle.lasso_parts.specs.Doubled.{next_of, IsOrdered, CanTake, NoneTakes, IsFirstToTake}
use Rattle.lasso_parts.specs.Placements.{IsSpareAt}
use Rattle.lasso_parts.specs.Waste.{IsSpare, HasNoSpare}
use Rattle.lasso_parts.proofs.Doubled.{next_append, next_grown, usage_doubled, spare_within}
use Rattle.lasso_parts.proofs.Spares.{found_first, found_none, none_greatest, first_apart}

-- the next size after the spares, and that of now
next_now : (a : Regions) → IsOrdered a → (2 * a.doubling ≡ next_of (2 * first_of a) (spares_at_clear a)) ⊎ (2 * next_of (2 * first_of a) (spares_at_clear a) ≤ 2 * a.doubling)
next_now a order =
    let z = 2 * first_of a in
    let xs = drop 1 a.all in
    let later = drop (a.kept - 1) xs in
    let parts : next_of (next_of z (take (a.kept - 1) xs)) later ≡ 2 * a.doubling = sym (next_append z (take (a.kept - 1) xs) later) ∙ ap (next_of z) (take-append-drop (a.kept - 1) xs) ∙ order.next in
    elim (next_grown (next_of z (take (a.kept - 1) xs)) later) [
      | inl same ↦ inl (omega (arith, parts, same))
      | inr more ↦ inr (omega (arith, parts, more))
    ]

-- s steps are no more than the bytes of s such sizes
enough : (s z : ℕ) → 0 < z → s ≤ s * z
enough s zero some = absurd (omega (arith, some))
enough s (suc z) some = grind arith

none_in : (n : ℕ) → length (take {A = Extent} n []) ≡ 0
none_in zero = refl
none_in (suc n) = refl

-- one after the first region
region_behind : (xs : List Extent) (k i : ℕ) → i < length (slice_range xs 1 k) → (region_at (slice_range xs 1 k) i ≡ region_at xs (i + 1)) × (i + 1 < k)
region_behind [] k i inside = absurd (omega (arith, inside, none_in (k - 1)))
region_behind (x ∷ xs) k i inside =
    let small : i < k - 1 = omega (arith, inside, length-take-min (k - 1) xs) in
    let next : suc i ≡ i + 1 = omega arith in
    let shift : region_at (x ∷ xs) (suc i) ≡ region_at (x ∷ xs) (i + 1) = ap (region_at (x ∷ xs)) next in
    (get_or-take (k - 1) xs i no_region small ∙ shift, omega (arith, small))
  where
    length-take-min : (n : ℕ) (l : List Extent) → length (take n l) ≤ n
    length-take-min zero l = omega arith
    length-take-min (suc n) [] = omega arith
    length-take-min (suc n) (y ∷ ys) = omega (arith, length-take-min n ys)

search_is : (a : Regions) (n : ℕ) → smallest_spare (spare_of a) (2 * first_of a) (0 + spare_in (spares_at_clear a)) n ≡ spare_for (first_of a) (account_of a) n
search_is a n = ap (λ (s : ℕ). smallest_spare (spare_of a) (2 * first_of a) s n) (omega arith)

pub spare_found : (a : Regions) (n i : ℕ) → IsOrdered a → IsFirstToTake n (spares_at_clear a) i
    → IsSpareAt a n (i + 1) × (spare_for (first_of a) (account_of a) n ≡ Some (region_at a.all (i + 1)).capacity)
spare_found a n i order is =
    let z = 2 * first_of a in
    let rs = spares_at_clear a in
    let some : 0 < z = omega (arith, order.some) in
    let behind = region_behind a.all a.kept i is.inside in
    let size : (region_at rs i).capacity ≡ (region_at a.all (i + 1)).capacity = ap (λ (r : Extent). r.capacity) behind.0 in
    let found = found_first n (spare_of a) z 0 rs i some some order.doubled (enough (spare_in rs) z some) is in
    let apart = first_apart n z rs i some order.doubled is in
    let all = usage_doubled z rs order.doubled in
    let spares = spare_within rs in
    let next = next_now a order in
    let spare : IsSpare (account_of a) (region_at a.all (i + 1)).capacity =
    record {
      part = omega (arith, apart.0, size);
      apart = elim next [
        | inl same ↦ elim apart.1 [
          | inl top ↦ inl (omega (arith, top, same, size))
          | inr (inl low) ↦ inr (inl (omega (arith, low, same)))
          | inr (inr both) ↦ inr (inr (omega (arith, both, same, size)))
        ]
        | inr more ↦ inr (inl (omega (arith, more, all, spares, some)))
      ];
    } in
    (record { after = omega arith; before = behind.1; takes = subst (CanTake n) behind.0 is.takes; spare = spare }, sym (search_is a n) ∙ found ∙ ap (λ (c : ℕ). Some c) size)

pub none_found : (a : Regions) (n : ℕ) → IsOrdered a → NoneTakes n (spares_at_clear a) → HasNoSpare (account_of a) n × (spare_for (first_of a) (account_of a) n ≡ None)
none_found a n order none =
    let z = 2 * first_of a in
    let rs = spares_at_clear a in
    let some : 0 < z = omega (arith, order.some) in
    let all = usage_doubled z rs order.doubled in
    let spares = spare_within rs in (
      λ great. elim (next_now a order) [
        | inl same ↦ omega (arith, none_greatest n z rs some order.doubled none (omega (arith, great, same)), same)
        | inr more ↦ absurd (omega (arith, more, all, spares, some, great))
      ],
      sym (search_is a n) ∙ found_none n (spare_of a) z 0 rs some some order.doubled (enough (spare_in rs) z some) none,
    )
