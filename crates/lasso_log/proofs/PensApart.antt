-- Two pens are of two words. A pen whose word is not at home holds three quarters of the word's cell, and no one can hold that
-- twice. Assumes `Logic`.
use Rattle.std.proofs.Common.{◌≡◌, ◌≢◌, ℕ, sym, subst, arith, inl, inr}
use Rattle.std.proofs.lemmas.Bool.{cases_Bool}
use Rattle.std.specs.Prelude.{nat_eq}
use Rattle.std.proofs.lemmas.Bool.Decides.{nat_tests}
use seplogic.Ra.Ura.{Ura}
use base.Share
use base.Share.{three_quarters}
use base.Logic.{SProp, ent, sep, ex, guard, via, ex_e, guard_e, guard_i}
use base.Fml.{Share, Fml}
use mathlib.Mathlib.Data.Part.{◌∈◌}
use types.Logic.{Logic, sem}
use types.Keyed.{entry, entry_glue}
use Rattle.logbook.specs.Pages.{Book, Nib, Right, may_write}
use Rattle.logbook.specs.Kept.{halved, part, nib_holds, pen_owns}

abbrev pub DifferInKey : Nib → Nib → Type 0
DifferInKey p q = p.key ≢ q.key

module _ {M : Type 1} {𝓤 : Ura M} (𝓛 : Logic 𝓤) where
  abbrev Pr : Type 2
  Pr = SProp 𝓤

  abbrev ◌⊢◌ : Pr → Pr → Type 1
  P ⊢ Q = ent 𝓤 P Q

  abbrev ◌∗◌ : Pr → Pr → Pr
  P ∗ Q = sep 𝓤 P Q

  abbrev ⟦◌⟧ : Fml → Pr
  ⟦ P ⟧ = sem 𝓛 P

  infix 26 ◌⊢◌
  infixr 35 ◌∗◌
  -- no one has three quarters of a cell twice
  once : (δ k v w : ℕ) (Z : Pr) → ⟦ part δ k three_quarters v ⟧ ∗ ⟦ part δ k three_quarters w ⟧ ⊢ Z
  once δ k v w Z = let F : Share × ℕ → Pr = λ x. guard 𝓤 (x ∈ halved.op (three_quarters, v) (three_quarters, w)) ⟦ entry halved δ k x ⟧ in
      via 𝓤 (ex 𝓤 F) (entry_glue halved 𝓛 δ k (three_quarters, v) (three_quarters, w))
      (ex_e 𝓤 F (λ x. guard_e 𝓤 (x ∈ halved.op (three_quarters, v) (three_quarters, w)) ⟦ entry halved δ k x ⟧ (λ m. absurd (Share.three_quarters_once m.0.0))))

  one_word : (b : Book) (p q : Nib) (Z : Pr) → p.right ≡ may_write → q.right ≡ may_write → p.key ≡ q.key → ⟦ pen_owns b p ⟧ ∗ ⟦ pen_owns b q ⟧ ⊢ Z
  unfolding pen_owns
  one_word b p q Z out out' same =
      let Held : Right → ℕ → ℕ → Pr = λ r k v. ⟦ nib_holds b.cells_name r k v ⟧ in
      subst (λ (r : Right). Held r p.key p.value ∗ Held q.right q.key q.value ⊢ Z) (sym out)
      (subst (λ (r : Right). Held may_write p.key p.value ∗ Held r q.key q.value ⊢ Z) (sym out')
      (subst (λ (k : ℕ). Held may_write p.key p.value ∗ Held may_write k q.value ⊢ Z) same (once b.cells_name p.key p.value q.value Z)))

  pub keys_apart : (b : Book) (p q : Nib) → p.right ≡ may_write → q.right ≡ may_write → ⟦ pen_owns b p ⟧ ∗ ⟦ pen_owns b q ⟧ ⊢ guard 𝓤 (DifferInKey p q) (⟦ pen_owns b p ⟧ ∗ ⟦ pen_owns b q ⟧)
  keys_apart b p q out out' = elim (cases_Bool (nat_eq p.key q.key)) [
    | inl same ↦ one_word b p q _ out out' (grind (arith, nat_tests))
    | inr other ↦ guard_i 𝓤 (DifferInKey p q) (⟦ pen_owns b p ⟧ ∗ ⟦ pen_owns b q ⟧) (λ same. absurd (grind (arith, nat_tests)))
  ]
