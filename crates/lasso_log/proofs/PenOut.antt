-- What a pen that is out tells of a log. The pen holds a part of its word's cell that the book would hold too
-- if the word were at home, and both can't exist. So at any moment at which the book is opened while the pen
-- is out, the cell isn't at home, and the log is past what was seen. Assumes `Logic`.
use Rattle.std.proofs.Common.{◌≡◌, ℕ, false, List, [], ◌∷◌, sym, subst, arith}
use mathlib.Core.List.{IsPrefix}
use seplogic.Ra.Ura.{Ura}
use base.Stored.{Coded}
use base.Logic.{SProp, ent, sep, ex, guard}
use base.Fml.{Fml}
use types.Logic.{Logic, sem}
use types.Kit.{‵, ◌⊛◌, some, given, later, ◌$◌, ◌∵◌, !, qed, move, drop, split, split3, pick, learn, show, check, frame, updating, await, now, done, use2}
use Rattle.logbook.specs.Pages.{Cell, cell, Book, Nib, Right, may_write}
use Rattle.logbook.specs.Kept.{Rules, roster, nib_holds, pen_owns}
use Rattle.logbook.proofs.Roster.{Out, away}
use Rattle.lasso_log.proofs.Opened.{At, Cells, Kept, Sees, looks}

module _ {M : Type 1} {𝓤 : Ura M} (𝓛 : Logic 𝓤) {E : Type 0} (cv : Coded E) (rule : Rules E) (bk : Book) (names : List ℕ) where
  open 𝓛 use {H}

  abbrev Pr : Type 2
  Pr = SProp 𝓤

  abbrev ◌⊢◌ : Pr → Pr → Type 1
  P ⊢ Q = ent 𝓤 P Q

  abbrev ◌∗◌ : Pr → Pr → Pr
  P ∗ Q = sep 𝓤 P Q

  abbrev ⟦◌⟧ : Fml → Pr
  ⟦ P ⟧ = sem 𝓛 P

  infix 26 ◌⊢◌
  infixr 35 ◌∗◌
  abbrev Away : Nib → List Cell → Type 0
  Away p cells = Out 𝓛 bk.cells_name cells p.key

  pen_away : (p : Nib) (cells : List Cell) → p.right ≡ may_write → ⟦ roster bk.cells_name 0 cells ⟧ ∗ ⟦ pen_owns bk p ⟧ ⊢ guard 𝓤 (Away p cells) (⟦ roster bk.cells_name 0 cells ⟧ ∗ ⟦ pen_owns bk p ⟧)
  unfolding pen_owns
  pen_away p cells right = let Pen : Right → Fml = λ s. nib_holds bk.cells_name s p.key p.value in
      subst (λ (s : Right). ⟦ roster bk.cells_name 0 cells ⟧ ∗ ⟦ Pen s ⟧ ⊢ guard 𝓤 (Away p cells) (⟦ roster bk.cells_name 0 cells ⟧ ∗ ⟦ Pen s ⟧)) (sym right)
      (away 𝓛 bk.cells_name cells 0 p.key p.key p.value (omega arith))

  -- a log that was reached while the word of this pen was not at home
  abbrev pub WasOut : Nib → List E → List E → Type 0
  WasOut p seen log = IsPrefix seen log × ((cells : List Cell) × rule.holds cells log × ((cell cells p.key).1 ≡ false))

  abbrev pub FoundOut : Nib → List E → List E → Pr
  FoundOut p seen log = guard 𝓤 (WasOut p seen log) (⟦ Sees 𝓛 cv rule bk names log ⟧ ∗ ⟦ pen_owns bk p ⟧)

  pub finds_out : (p : Nib) (seen : List E) → p.right ≡ may_write → ⟦ Sees 𝓛 cv rule bk names seen ⟧ ∗ ⟦ pen_owns bk p ⟧ ⊢ H.⇛ (ex 𝓤 (FoundOut p seen))
  finds_out p seen right = let Pen : Fml = pen_owns bk p in let S : List E → Fml = Sees 𝓛 cv rule bk names in
      let X : At 𝓛 cv rule bk names → Pr = λ s. guard 𝓤 (Away p s.0) ⟦ Pen ⟧ in
      qed 𝓛 (‵ (S seen) ∷ ‵ Pen ∷ []) ∵ updating ! $
      use2 𝓛 (later (some (λ (s : At 𝓛 cv rule bk names). given (rule.holds s.0 s.1 × IsPrefix seen s.1) (‵ (S seen) ⊛ ‵ (S s.1) ⊛ given (Away p s.0) (‵ Pen)))))
      (looks 𝓛 cv rule bk names seen ⟦ Pen ⟧ X (λ s so p'.
      qed 𝓛 (‵ (Cells 𝓛 cv rule bk names s.0) ∷ ‵ (Kept 𝓛 cv rule bk names s.1) ∷ ‵ Pen ∷ []) ∵ move ! (0 ∷ 2 ∷ []) $
      use2 𝓛 (given (Away p s.0) (‵ (Cells 𝓛 cv rule bk names s.0) ⊛ ‵ Pen)) (pen_away p s.0 right) $ learn ! (λ out. split ! $ frame ! $ move ! (1 ∷ []) $ frame ! $ check ! out $ done !))) $
      await ! tt $ pick ! (λ s. learn ! (λ so. split3 ! $ drop ! $ move ! (1 ∷ []) $ learn ! (λ out. now ! $ show ! (FoundOut p seen) s.1 $ check ! (so.1, (s.0, so.0, out.1)) $ move ! (1 ∷ 0 ∷ []) $ done !)))
