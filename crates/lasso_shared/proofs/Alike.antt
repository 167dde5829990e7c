-- What two passes of one interner have seen: the same text at a position, and no less after they meet.
use Rattle.std.proofs.Common.{◌≡◌, ◌⊎◌, ◌<◌, ◌≤◌, ℕ, arith, List, length, slice_get, Some, subst, inl, inr}
use mathlib.Core.List.{IsPrefix}
use Rattle.lasso_parts.specs.Texts.{Text}
use Rattle.lasso_log.specs.Notes.{NoteView}
use Rattle.lasso_log.specs.Views.{InternerId, list_of}
use Rattle.lasso_log.proofs.Lengths.{texts_past}
use Rattle.lasso_log.proofs.Lined.{prefix_short}
use Rattle.lasso_log.proofs.Reading.{text_read}

pub lists_alike : (a b : InternerId) (v w : List NoteView) → a ≡ b → IsPrefix v w ⊎ IsPrefix w v → IsPrefix (list_of a v) (list_of b w) ⊎ IsPrefix (list_of b w) (list_of a v)
lists_alike a b v w same (inl p) = inl (subst (λ (o : InternerId). IsPrefix (list_of a v) (list_of o w)) same (texts_past a.opening v w p))
lists_alike a b v w same (inr p) = inr (subst (λ (o : InternerId). IsPrefix (list_of o w) (list_of a v)) same (texts_past a.opening w v p))

pub read_alike : (xs ys : List Text) (n : ℕ) (t u : Text) → IsPrefix xs ys ⊎ IsPrefix ys xs → n < length xs → n < length ys → slice_get xs n ≡ Some t → slice_get ys n ≡ Some u → t ≡ u
read_alike xs ys n t u (inl p) low high here there = let found = text_read xs ys n u p low there in cc (found, here)
read_alike xs ys n t u (inr p) low high here there = let found = text_read ys xs n t p high here in cc (found, there)

grown_list : (a b : InternerId) (v w : List NoteView) → a ≡ b → IsPrefix v w → length (list_of a v) ≤ length (list_of b w)
grown_list a b v w same p = subst (λ (o : InternerId). length (list_of a v) ≤ length (list_of o w)) same (prefix_short (list_of a v) (list_of a w) (texts_past a.opening v w p))

pub seen_by_either : (n : ℕ) (a b o : InternerId) (v u w : List NoteView) → a ≡ o → b ≡ o → IsPrefix v w → IsPrefix u w → (n ≤ length (list_of a v)) ⊎ (n ≤ length (list_of b u)) → n ≤ length (list_of o w)
seen_by_either n a b o v u w x y p q (inl e) = let long = grown_list a o v w x p in omega (arith, e, long)
seen_by_either n a b o v u w x y p q (inr e) = let long = grown_list b o u w y q in omega (arith, e, long)
