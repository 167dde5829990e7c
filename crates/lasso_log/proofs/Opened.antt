-- A look into a book: for a moment its invariant is open, what its rule keeps can be used, and is put back.
--
-- What a `Seen` owns is a name of the book's invariant and the fact that the log was reached. Both can be had
-- any number of times. The invariant holds the cells, the whole log, what clients keep with what they see of
-- it, and that the rule holds. A log that was reached is a beginning of that log. So whoever holds a `Seen`
-- can open the invariant in one step of ghost state, take what is kept there through any entailment that
-- gives it back, close the invariant, and have a `Seen` of the whole log next to its own. Assumes `Logic`.
use Rattle.std.proofs.Common.{ℕ, List, [], ◌∷◌, map}
use mathlib.Core.List.{IsPrefix}
use seplogic.Ra.Ura.{Ura}
use base.Fraction.{full_share}
use base.Stored.{Coded}
use base.Logic.{SProp, ent, sep, ex, guard, upd_i, guard_i, id⊢}
use base.Fml.{Fml, ftrue, finv, fnamed}
use base.Growing.{latest}
use types.Growing.{latest_bounds, latest_shows}
use types.Logic.{Logic, sem}
use types.Kit.{‵, raw, ◌⊛◌, given, ◌$◌, ◌∵◌, !, qed, by, move, split, split3, join, fsplit, fsplit3, fjoin, fjoin3, fpick, fpack, learn, show, check, frame, assume, suffices, use1, use2, drop, done}
use denote.Steps.{nothing}
use Rattle.logbook.specs.Pages.{Cell, Book, Calm}
use Rattle.logbook.specs.Kept.{logs, Rules, roster, reached, standing, contents, seen_owns}
use Rattle.logbook.proofs.Roster.{prefix_out}

module _ {M : Type 1} {𝓤 : Ura M} (𝓛 : Logic 𝓤) {E : Type 0} (cv : Coded E) (rule : Rules E) (bk : Book) (names : List ℕ) where
  open 𝓛 use {H}

  abbrev Pr : Type 2
  Pr = SProp 𝓤

  abbrev ◌⊢◌ : Pr → Pr → Type 1
  P ⊢ Q = ent 𝓤 P Q

  abbrev ◌∗◌ : Pr → Pr → Pr
  P ∗ Q = sep 𝓤 P Q

  abbrev ⟦◌⟧ : Fml → Pr
  ⟦ P ⟧ = sem 𝓛 P

  infix 26 ◌⊢◌
  infixr 35 ◌∗◌
  abbrev Inside : Fml
  Inside = contents cv.code rule bk.log_name bk.cells_name names

  abbrev Name : Fml
  Name = fnamed bk.number Inside

  abbrev Reached : List E → Fml
  Reached = reached cv.code bk.log_name

  abbrev Whole : List E → Fml
  Whole log = latest logs full_share bk.log_name (map cv.code log)

  abbrev pub Cells : List Cell → Fml
  Cells = roster bk.cells_name 0

  abbrev pub Kept : List E → Fml
  Kept log = rule.keeps names (rule.shows log)

  abbrev pub Sees : List E → Fml
  Sees = seen_owns cv.code rule bk names

  abbrev Quiet : Type 0
  Quiet = Calm (rule.keeps names)

  unsealed : (log : List E) → ⟦ Sees log ⟧ ⊢ guard 𝓤 Quiet (⟦ Name ⟧ ∗ ⟦ Reached log ⟧)
  unfolding Rattle.logbook.specs.Kept.seal
  unsealed log = id⊢ 𝓤 _

  sealed : (log : List E) → Quiet → ⟦ Name ⟧ ∗ ⟦ Reached log ⟧ ⊢ ⟦ Sees log ⟧
  unfolding Rattle.logbook.specs.Kept.seal
  sealed log quiet = guard_i 𝓤 Quiet (⟦ Name ⟧ ∗ ⟦ Reached log ⟧) quiet

  begins : (log seen : List E) → ⟦ Whole log ⟧ ∗ ⟦ Reached seen ⟧ ⊢ guard 𝓤 (IsPrefix seen log) (⟦ Whole log ⟧ ∗ ⟦ Reached seen ⟧)
  begins log seen = qed 𝓛 (‵ (Whole log) ∷ ‵ (Reached seen) ∷ []) ∵
      use2 𝓛 (given (IsPrefix (map cv.code seen) (map cv.code log)) (‵ (Whole log) ⊛ ‵ (Reached seen))) (latest_bounds logs 𝓛 full_share bk.log_name (map cv.code log) (map cv.code seen)) $
      learn ! (λ p. check ! (prefix_out cv seen log p) $ done !)

  abbrev pub At : Type 0
  At = List Cell × List E

  -- What a look at a moment gives, for one who had seen `seen`: both logs, and X
  abbrev pub Looked : List E → (At → Pr) → At → Pr
  Looked seen X s = guard 𝓤 (rule.holds s.0 s.1 × IsPrefix seen s.1) (⟦ Sees seen ⟧ ∗ ⟦ Sees s.1 ⟧ ∗ X s)

  pub looks : (seen : List E) (R : Pr) (X : At → Pr)
      → ((s : At) → rule.holds s.0 s.1 → IsPrefix seen s.1 → ⟦ Cells s.0 ⟧ ∗ ⟦ Kept s.1 ⟧ ∗ R ⊢ ⟦ Cells s.0 ⟧ ∗ ⟦ Kept s.1 ⟧ ∗ X s)
      → ⟦ Sees seen ⟧ ∗ R ⊢ H.⇛ (ex 𝓤 (Looked seen X))
  looks seen R X step = let Z : Pr = ex 𝓤 (Looked seen X) in
      qed 𝓛 (‵ (Sees seen) ∷ raw R ∷ []) ∵ use1 𝓛 (given Quiet (‵ Name ⊛ ‵ (Reached seen))) (unsealed seen) $ learn ! (λ quiet. split ! $
      use1 𝓛 (‵ Name ⊛ ‵ Name) (𝓛.invs.named_dup bk.number Inside) $ split ! $ use1 𝓛 (‵ Name ⊛ ‵ Name) (𝓛.invs.named_dup bk.number Inside) $ split ! $
      use1 𝓛 (‵ (finv Inside)) (𝓛.invs.named_inv bk.number Inside) $ suffices ! _ (𝓛.invs.inv_acc Inside Z) $ frame ! $
      -- [the name; the name; seen; R]
      assume ! (‵ Inside) $ suffices ! _ (upd_i 𝓤 (⟦ Inside ⟧ ∗ Z)) $
      fpick ! (λ s. fsplit3 ! $ move ! (2 ∷ []) $ fsplit ! $ move ! (1 ∷ []) $ fpick ! (λ so. drop ! $
      -- [what is kept; the cells; the whole log; the name; the name; seen; R]
      move ! (2 ∷ 5 ∷ []) $ use2 𝓛 (given (IsPrefix seen s.1) (‵ (Whole s.1) ⊛ ‵ (Reached seen))) (begins s.1 seen) $ learn ! (λ p. split ! $
      use1 𝓛 (‵ (Whole s.1) ⊛ ‵ (Reached s.1)) (latest_shows logs 𝓛 full_share bk.log_name (map cv.code s.1) (map cv.code s.1) (logs.same (map cv.code s.1))) $ split ! $
      -- [the whole log; s.1; seen; what is kept; the cells; the name; the name; R]
      move ! (4 ∷ 3 ∷ 7 ∷ []) $ types.Kit.use3 𝓛 (‵ (Cells s.0) ⊛ ‵ (Kept s.1) ⊛ raw (X s)) (step s so p) $ split3 ! $
      -- [the cells; what is kept; X; the whole log; s.1; seen; the name; the name]
      nothing ! $ fpack ! (rule.holds s.0 s.1) (λ _. ftrue) so $ move ! (2 ∷ 0 ∷ []) $ fjoin ! $ move ! (1 ∷ 3 ∷ 0 ∷ []) $ fjoin3 ! $
      fpack ! At (standing cv.code rule bk.log_name bk.cells_name names) s $ frame ! $
      -- [X; s.1; seen; the name; the name]
      show ! (Looked seen X) s $ check ! (so, p) $ move ! (3 ∷ 2 ∷ []) $ use2 𝓛 (‵ (Sees seen)) (sealed seen quiet) $ frame ! $
      move ! (2 ∷ 1 ∷ []) $ use2 𝓛 (‵ (Sees s.1)) (sealed s.1 quiet) $ frame ! $ done !))))
