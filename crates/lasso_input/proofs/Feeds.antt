-- The first position that passes a test, by the list of all positions that do.
--
-- A search that looks near first answers the first of a list of positions. An empty list says that no position passes, and what
-- a list begins with is the first that does: both by going through the positions one after another.
use Rattle.std.proofs.Common.{◌≡◌, ℕ, zero, suc, ◌+◌, ◌-◌, ◌≤◌, ◌⊎◌, ◌∙◌, Bool, false, List, [], ◌∷◌, Option, Some, None, length, get_or, refl, sym, ap, subst, arith, inl, inr, ⊎_elim}
use Rattle.std.proofs.lemmas.Bool.{cases_Bool, cond-true, cond-false, false≢true}
use Rattle.std.specs.List.{slice_index}
use Rattle.memchr.specs.Find.{IsFirstByte, TakesFirst, Passes, Nowhere, NoneBefore, places, places_from}

module _ (test : ℕ → Bool) (hay : List ℕ) where
  fails_here : (i : ℕ) → test (slice_index hay i) ≡ false → ¬ Passes test hay i
  fails_here i f = λ t. false≢true (sym f ∙ t)

  here_or_later : (i k : ℕ) → i ≤ k → (k ≡ i) ⊎ (i + 1 ≤ k)
  here_or_later zero zero low = inl refl
  here_or_later zero (suc k) low = inr (omega arith)
  here_or_later (suc i) zero low = absurd (omega (arith, low))
  here_or_later (suc i) (suc k) low = ⊎_elim (λ e. inl (ap suc e)) (λ l. inr (omega (arith, l))) (here_or_later i k (omega (arith, low)))

  -- a position that does not pass, and none from the next one on
  none_more : (i j : ℕ) → ¬ Passes test hay i → Nowhere (Passes test hay) (i + 1) j → Nowhere (Passes test hay) i j
  none_more i j fails later = λ k low high passes. ⊎_elim (λ same. fails (subst (Passes test hay) same passes)) (λ more. later k more high passes) (here_or_later i k low)

  nowhere : (i n : ℕ) → places_from test hay i n ≡ [] → Nowhere (Passes test hay) i (i + n)
  unfolding places_from
  nowhere i zero e = λ k low high. absurd (omega (arith, low, high))
  nowhere i (suc n) e = ⊎_elim
      (λ t. absurd (omega (arith, ap length (sym (cond-true _ _ _ t) ∙ e))))
      (λ f. none_more i (i + suc n) (fails_here i f) (subst (λ j. Nowhere (Passes test hay) (i + 1) j) (omega arith) (nowhere (i + 1) n (sym (cond-false _ _ _ f) ∙ e))))
      (cases_Bool (test (slice_index hay i)))

  first : (i n k : ℕ) (rest : List ℕ) → places_from test hay i n ≡ k ∷ rest → NoneBefore (Passes test hay) i (i + n) k × Passes test hay k
  unfolding places_from
  first i zero k rest e = absurd (omega (arith, ap length e))
  first i (suc n) k rest e = ⊎_elim
      (λ t. subst (λ m. NoneBefore (Passes test hay) i (i + suc n) m × Passes test hay m) (ap (λ l. get_or l 0 0) (sym (cond-true _ _ _ t) ∙ e))
      (record { low = omega arith; high = omega arith; before = λ m low high. absurd (omega (arith, low, high)) }, t))
      (λ f. let later = first (i + 1) n k rest (sym (cond-false _ _ _ f) ∙ e) in
      (record { low = omega (arith, later.0.low); high = omega (arith, later.0.high); before = none_more i k (fails_here i f) later.0.before }, later.1))
      (cases_Bool (test (slice_index hay i)))

  -- what is taken first of all positions that pass
  pub first_taken : (r : Option ℕ) (all rest : List ℕ) → all ≡ places test hay → TakesFirst all r rest → IsFirstByte test hay r
  first_taken None all rest is taken = subst (λ n. Nowhere (Passes test hay) 0 n) (omega arith) (nowhere 0 (length hay - 0) (sym is ∙ taken.0))
  first_taken (Some k) all rest is taken = subst (λ n. NoneBefore (Passes test hay) 0 n k × Passes test hay k) (omega arith) (first 0 (length hay - 0) k rest (sym is ∙ taken))
