-- What another token adds to what was seen of a book, if it is of that book. The log's name decides which book it is. Assumes `Logic`.
use Rattle.std.proofs.Common.{◌≡◌, ◌≢◌, ℕ, List, [], ◌∷◌, sym, ap, subst, arith, inl, inr}
use Rattle.std.proofs.lemmas.Bool.{cases_Bool}
use Rattle.std.specs.Prelude.{nat_eq}
use Rattle.std.proofs.lemmas.Bool.Decides.{nat_tests}
use mathlib.Core.List.{IsPrefix}
use seplogic.Ra.Ura.{Ura}
use base.Stored.{Coded}
use base.Logic.{SProp, ent, sep, ex, guard}
use base.Fml.{Fml}
use types.Logic.{Logic, sem}
use types.Kit.{‵, ◌⊛◌, some, given, later, ◌$◌, ◌∵◌, !, qed, move, keep, split, pick, learn, show, check, updating, await, now, done, use1, use2}
use Rattle.logbook.specs.Pages.{Cell, Book}
use Rattle.logbook.specs.Kept.{Rules, reached, seen_owns}
use Rattle.logbook.proofs.Steps as steps

module _ {M : Type 1} {𝓤 : Ura M} (𝓛 : Logic 𝓤) {E : Type 0} (cv : Coded E) (rule : Rules E) (bk : Book) (names : List ℕ) where
  open 𝓛 use {H}

  abbrev Pr : Type 2
  Pr = SProp 𝓤

  abbrev ◌⊢◌ : Pr → Pr → Type 1
  P ⊢ Q = ent 𝓤 P Q

  abbrev ◌∗◌ : Pr → Pr → Pr
  P ∗ Q = sep 𝓤 P Q

  abbrev ⟦◌⟧ : Fml → Pr
  ⟦ P ⟧ = sem 𝓛 P

  infix 26 ◌⊢◌
  infixr 35 ◌∗◌
  abbrev Sees : List E → Fml
  Sees = seen_owns cv.code rule bk names

  -- a log past what was seen, and past what the other token knows if that is of this book
  abbrev pub Met : (other : Book) → (seen known log : List E) → Type 0
  Met other seen known log = IsPrefix seen log × (other ≡ bk → IsPrefix known log) × ((cells : List Cell) × rule.holds cells log)

  abbrev pub MetAt : (other : Book) → (seen known log : List E) → Pr
  MetAt other seen known log = guard 𝓤 (Met other seen known log) ⟦ Sees log ⟧

  one_book : (other : Book) (seen known : List E) → other.log_name ≡ bk.log_name → ⟦ Sees seen ⟧ ∗ ⟦ reached cv.code other.log_name known ⟧ ⊢ H.⇛ (ex 𝓤 (MetAt other seen known))
  one_book other seen known same = subst (λ (n : ℕ). ⟦ Sees seen ⟧ ∗ ⟦ reached cv.code n known ⟧ ⊢ H.⇛ (ex 𝓤 (MetAt other seen known))) (sym same) (
      qed 𝓛 (‵ (Sees seen) ∷ ‵ (reached cv.code bk.log_name known) ∷ []) ∵ updating ! $
      use2 𝓛 (later (some (λ (log : List E). given (IsPrefix seen log × IsPrefix known log × ((cells : List Cell) × rule.holds cells log)) (‵ (Sees log))))) (steps.learns 𝓛 cv rule bk names seen known) $
      await ! tt $ pick ! (λ log. learn ! (λ so. now ! $ show ! (MetAt other seen known) log $ check ! (so.0, (λ _. so.1), so.2) $ done !)))

  two_books : (other : Book) (seen known : List E) → other.log_name ≢ bk.log_name → ⟦ Sees seen ⟧ ∗ ⟦ reached cv.code other.log_name known ⟧ ⊢ H.⇛ (ex 𝓤 (MetAt other seen known))
  two_books other seen known apart =
      qed 𝓛 (‵ (Sees seen) ∷ ‵ (reached cv.code other.log_name known) ∷ []) ∵ keep ! (0 ∷ []) $
      use1 𝓛 (‵ (Sees seen) ⊛ ‵ (Sees seen)) (steps.seen_twice 𝓛 cv rule bk names seen) $ split ! $ use1 𝓛 (‵ (reached cv.code bk.log_name seen)) (steps.seen_log 𝓛 cv rule bk names seen) $ move ! (1 ∷ 0 ∷ []) $ updating ! $
      use2 𝓛 (later (some (λ (log : List E). given (IsPrefix seen log × IsPrefix seen log × ((cells : List Cell) × rule.holds cells log)) (‵ (Sees log))))) (steps.learns 𝓛 cv rule bk names seen seen) $
      await ! tt $ pick ! (λ log. learn ! (λ so. now ! $ show ! (MetAt other seen known) log $ check ! (so.0, (λ (one : other ≡ bk). absurd (apart (ap (λ (b : Book). b.log_name) one))), so.2) $ done !))

  pub meets : (other : Book) (seen known : List E) → ⟦ Sees seen ⟧ ∗ ⟦ reached cv.code other.log_name known ⟧ ⊢ H.⇛ (ex 𝓤 (MetAt other seen known))
  meets other seen known = elim (cases_Bool (nat_eq other.log_name bk.log_name)) [
    | inl same ↦ one_book other seen known (grind (arith, nat_tests))
    | inr apart ↦ two_books other seen known (λ one. absurd (grind (arith, nat_tests)))
  ]
