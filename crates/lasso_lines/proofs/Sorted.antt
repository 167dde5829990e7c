-- Sorted pairs of a front and a text ascend by their texts, if the texts are distinct.
--
-- Of two neighbours the second is not less. If its front is higher, its text is greater. If the fronts are
-- equal, its text is not less; and since the texts are distinct, it is greater.
use Rattle.std.proofs.Common.{ℕ, ◌≡◌, ◌+◌, ◌<◌, List, [], ◌∷◌, map, length, get_or, Bor, refl, sym, ap, subst, ◌∙◌, arith, false, true}
use Rattle.std.specs.Prelude.{All, IsSorted}
use Rattle.std.specs.Ordering.{is_lt, ordering_then, ordering_reverse, nat_cmp}
use Rattle.std.specs.declared.cmp.Ordering.{Ordering}
use Rattle.std.specs.declared.cmp.Ordering.TheVariants.{Less, Equal, Greater}
use Rattle.std.specs.FinSet.{nat_cmp-IsAntisymmetric, slice_cmp-IsAntisymmetric}
use Rattle.std.specs.Cmp.Lexicographic.{nat_list_cmp_total}
use Rattle.std.specs.Str.{bytes_eq}
use Rattle.std.proofs.lemmas.Slice.Eq.{bytes_eq-Decides}
use Rattle.std.proofs.lemmas.List.{length-map, get_or-map}
use Rattle.std.proofs.lemmas.Map.Keys.{apart_from_distinct}
use Rattle.std.proofs.lemmas.Bool.Decides.{nat_tests}
use Rattle.lasso_parts.specs.Texts.{Text, IsDistinct}
use Rattle.lasso_lines.specs.Fronts.{front, IsFronted, text_cmp, fronted_cmp}
use Rattle.lasso_lines.specs.Ordered.{IsAscending}
use Rattle.lasso_lines.proofs.Fronts.{Compared, lower, same, higher, compared, front_orders}

-- if two texts differ and the other one is not less, the first is less
apart : (one other : Text) (o : Ordering) → text_cmp one other ≡ o → is_lt (text_cmp other one) ≡ false → (one ≡ other → ⊥) → o ≡ Less
apart one other Less e kept differ = refl
apart one other Equal e kept differ = absurd (differ (slice_cmp-IsAntisymmetric nat_cmp-IsAntisymmetric one other e))
apart one other Greater e kept differ =
    let back : text_cmp other one ≡ Less = nat_list_cmp_total.antisymm other one ∙ ap ordering_reverse e in
    let is : is_lt (text_cmp other one) ≡ true = ap is_lt back in absurd (cc)

lower_cmp : (x y : ℕ) → x < y → nat_cmp x y ≡ Less
lower_cmp x y low = grind (arith, nat_tests)

equal_cmp : (x y : ℕ) → x ≡ y → nat_cmp x y ≡ Equal
equal_cmp x y is = grind (arith, nat_tests)

-- two neighbours
before : (p q : ℕ × Bor Text) → IsFronted p → IsFronted q → is_lt (fronted_cmp q p) ≡ false → (p.1.now ≡ q.1.now → ⊥) → Compared p.0 q.0 → text_cmp p.1.now q.1.now ≡ Less
before p q is is' kept differ (lower below) =
    front_orders 8 0 p.1.now q.1.now is.1 is'.1 (subst (λ n. n < front q.1.now) is.0 (subst (λ n. p.0 < n) is'.0 below))
before p q is is' kept differ (same equal) =
    let here : fronted_cmp q p ≡ text_cmp q.1.now p.1.now = ap (λ o. ordering_then o (text_cmp q.1.now p.1.now)) (equal_cmp q.0 p.0 (sym equal)) in
    apart p.1.now q.1.now (text_cmp p.1.now q.1.now) refl (sym (ap is_lt here) ∙ kept) differ
before p q is is' kept differ (higher above) =
    let here : fronted_cmp q p ≡ Less = ap (λ o. ordering_then o (text_cmp q.1.now p.1.now)) (lower_cmp q.0 p.0 above) in
    let less : is_lt (fronted_cmp q p) ≡ true = ap is_lt here in absurd (cc)

module _ (pairs : List (ℕ × Bor Text)) (sorted : IsSorted fronted_cmp pairs) (fronted : All IsFronted pairs) (distinct : IsDistinct (map (λ p. p.1.now) pairs)) (k : ℕ) (d : Text) (e : ℕ × Bor Text) (small : k + 1 < length pairs) where
  here : get_or (map (λ (p : ℕ × Bor Text). p.1.now) pairs) k d ≡ (get_or pairs k e).1.now
  here = get_or-map (λ (p : ℕ × Bor Text). p.1.now) pairs k e d (omega arith)

  next : get_or (map (λ (p : ℕ × Bor Text). p.1.now) pairs) (k + 1) d ≡ (get_or pairs (k + 1) e).1.now
  next = get_or-map (λ (p : ℕ × Bor Text). p.1.now) pairs (k + 1) e d small

  differ : (get_or pairs k e).1.now ≡ (get_or pairs (k + 1) e).1.now → ⊥
  differ alike =
      let texts = map (λ (p : ℕ × Bor Text). p.1.now) pairs in
      let unlike : bytes_eq (get_or texts k d) (get_or texts (k + 1) d) ≡ false = apart_from_distinct bytes_eq texts k (k + 1) d distinct (omega arith) (omega (arith, length-map pairs (λ (p : ℕ × Bor Text). p.1.now))) in
      let equal : bytes_eq (get_or texts k d) (get_or texts (k + 1) d) ≡ true = (bytes_eq-Decides (get_or texts k d) (get_or texts (k + 1) d)).1 (here ∙ alike ∙ sym next) in
      cc

  pair_ascends : text_cmp (get_or (map (λ (p : ℕ × Bor Text). p.1.now) pairs) k d) (get_or (map (λ (p : ℕ × Bor Text). p.1.now) pairs) (k + 1) d) ≡ Less
  pair_ascends =
      let p = get_or pairs k e in
      let q = get_or pairs (k + 1) e in
      rw (here, next) (before p q (fronted k e (omega arith)) (fronted (k + 1) e small) (sorted k e (omega arith) small) differ (compared p.0 q.0))

pub ascending : (pairs : List (ℕ × Bor Text)) → IsSorted fronted_cmp pairs → All IsFronted pairs → IsDistinct (map (λ p. p.1.now) pairs) → IsAscending (map (λ p. p.1.now) pairs)
ascending [] sorted fronted distinct k d small = absurd (omega arith)
ascending (p ∷ pairs) sorted fronted distinct k d small =
    pair_ascends (p ∷ pairs) sorted fronted distinct k d p (omega (arith, length-map pairs (λ (p : ℕ × Bor Text). p.1.now)))
