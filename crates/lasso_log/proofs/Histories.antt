-- Histories and the notes that they are read off, one after the other.
use Rattle.std.proofs.Common.{◌≡◌, ℕ, List, [], ◌∷◌, ◌++◌, length, refl, ap, sym, ◌∙◌, arith, append_assoc}
use Rattle.std.proofs.lemmas.List.{append-nil}
use mathlib.Core.List.{IsPrefix}
use Rattle.lasso_log.specs.History.{History, Totals, totals}
use Rattle.lasso_log.specs.Calls.{events_of}
use Rattle.lasso_log.specs.Notes.{NoteView, history, state}
use Rattle.lasso_log.proofs.Legal.{totals_append}

pub events_append : (p : ℕ) (h g : History) → events_of p (h ++ g) ≡ events_of p h ++ events_of p g
events_append p [] g = refl
events_append p (e ∷ h) g = let rest = events_append p h g in grind (arith, rest)

pub history_append : (xs ys : List NoteView) → history (xs ++ ys) ≡ history xs ++ history ys
history_append [] ys = refl
history_append (e ∷ xs) ys = ap (λ (h : History). (e.by, e.event) ∷ h) (history_append xs ys)

pub own_append : (p : ℕ) (xs ys : List NoteView) → events_of p (history (xs ++ ys)) ≡ events_of p (history xs) ++ events_of p (history ys)
own_append p xs ys = ap (events_of p) (history_append xs ys) ∙ events_append p (history xs) (history ys)

-- the state of a longer log, from that of its beginning
pub state_past : (o : Totals) (v rest : List NoteView) → state o (v ++ rest) ≡ totals (state o v) (history rest)
state_past o v rest = ap (totals o) (history_append v rest) ∙ totals_append o (history v) (history rest)

pub prefix_self : {A : Type 0} (xs : List A) → IsPrefix xs xs
prefix_self xs = ([], append-nil xs)

pub prefix_whole : {A : Type 0} (xs ys : List A) → IsPrefix xs ys → length ys ≡ length xs → xs ≡ ys
prefix_whole [] [] p e = refl
prefix_whole [] (y ∷ ys) p e = absurd (omega (arith, e))
prefix_whole (x ∷ xs) [] p e = absurd (cc (p.1))
prefix_whole (x ∷ xs) (y ∷ ys) p e =
    let rest = prefix_whole xs ys (p.0, cc (p.1)) (omega (arith, e)) in cc (p.1, rest)

pub prefix_trans : {A : Type 0} (xs ys zs : List A) → IsPrefix xs ys → IsPrefix ys zs → IsPrefix xs zs
prefix_trans xs ys zs p q = (p.0 ++ q.0, sym (append_assoc xs p.0 q.0) ∙ (ap (λ w. w ++ q.0) p.1 ∙ q.1))

pub prefix_tail : {A : Type 0} (x y : A) (xs ys : List A) → IsPrefix (x ∷ xs) (y ∷ ys) → (x ≡ y) × IsPrefix xs ys
prefix_tail x y xs ys p = (cc (p.1), (p.0, cc (p.1)))
