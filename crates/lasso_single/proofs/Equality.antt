-- Comparing two lists of texts position by position.
--
-- Two lists of one length that have the same text at each position are the same list. The test that
-- comparisons compute is true exactly there.
use Rattle.std.proofs.Common.{◌≡◌, ◌<◌, ℕ, suc, Bool, true, false, not, List, [], ◌∷◌, length, Some, refl, sym, ap, arith}
use Rattle.std.specs.Prelude.{slice_get, bytes_eq}
use Rattle.std.specs.Bool.{Decides}
use Rattle.std.proofs.lemmas.Slice.Eq.{slice_eq-Decides, bytes_eq-Decides}
use Rattle.lasso_parts.specs.Texts.{Text}
use Rattle.lasso_single.specs.Equality.{texts_eq}

pub texts_eq-Decides : (xs ys : List Text) → Decides (texts_eq xs ys) (xs ≡ ys)
texts_eq-Decides xs ys = slice_eq-Decides bytes_eq-Decides xs ys (texts_eq xs ys) refl

-- lists of one length with the same text at each position
pub same_texts : (xs ys : List Text) → length xs ≡ length ys → ((k : ℕ) → k < length xs → slice_get xs k ≡ slice_get ys k) → xs ≡ ys
same_texts [] [] e same = refl
same_texts [] (y ∷ ys) e same = absurd (omega arith)
same_texts (x ∷ xs) [] e same = absurd (omega arith)
same_texts (x ∷ xs) (y ∷ ys) e same =
    let head : Some x ≡ Some y = same 0 (omega arith) in
    let tail : xs ≡ ys = same_texts xs ys (omega arith) (λ k below. same (suc k) (omega arith)) in
    cc

-- a test that is true only where two lists are equal is false where they are not
no_other : (b : Bool) → (b ≡ true → ⊥) → false ≡ b
no_other true h = absurd (h refl)
no_other false h = refl

pub texts_differ : (xs ys : List Text) → (xs ≡ ys → ⊥) → false ≡ texts_eq xs ys
texts_differ xs ys apart = no_other (texts_eq xs ys) (λ e. apart ((texts_eq-Decides xs ys).0 e))

pub texts_agree : (xs ys : List Text) → xs ≡ ys → true ≡ texts_eq xs ys
texts_agree xs ys e = sym ((texts_eq-Decides xs ys).1 e)

was_true : (b : Bool) → not b ≡ false → b ≡ true
was_true true h = refl
was_true false h = cc

-- lists that differ at a position
pub differ_at : (xs ys : List Text) (k : ℕ) (a b : Text) → slice_get xs k ≡ Some a → slice_get ys k ≡ Some b → not (bytes_eq a b) ≡ true → xs ≡ ys → ⊥
differ_at xs ys k a b at_xs at_ys test e =
    let same : a ≡ b = let moved = ap (λ (l : List Text). slice_get l k) e in cc in
    let yes : bytes_eq a b ≡ true = (bytes_eq-Decides a b).1 same in
    cc

-- lists that agree at a position
pub agree_at : (xs ys : List Text) (k : ℕ) (a b : Text) → slice_get xs k ≡ Some a → slice_get ys k ≡ Some b → not (bytes_eq a b) ≡ false → slice_get xs k ≡ slice_get ys k
agree_at xs ys k a b at_xs at_ys test =
    let same : a ≡ b = (bytes_eq-Decides a b).0 (was_true (bytes_eq a b) test) in
    cc
