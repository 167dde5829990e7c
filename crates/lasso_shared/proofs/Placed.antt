-- The key of a text that is at a position of a list that was seen.
use Rattle.std.proofs.Common.{◌≡◌, ℕ, List, Option, Some, ap, ◌∙◌, subst}
use Rattle.std.specs.Prelude.{option_and_then, slice_get}
use Rattle.lasso_parts.specs.Texts.{Text, position_of, key_of}
use Rattle.lasso_parts.proofs.IndexLaws.{position_of_at}
use Rattle.lasso_log.specs.History.{IsLegal, IsOpening}
use Rattle.lasso_log.specs.Notes.{NoteView, history}
use Rattle.lasso_log.specs.Views.{InternerId, list_of}
use Rattle.lasso_shared.proofs.Whole.{list_good}

-- the list is distinct, so the text has no other position
pub key_placed : {K : Type 0} (key_at : ℕ → Option K) (of log : InternerId) (notes : List NoteView) (text : Text) (n : ℕ) (k : K) → of ≡ log → IsOpening key_at of.opening → IsLegal key_at of.opening (history notes) → slice_get (list_of of notes) n ≡ Some text → key_at n ≡ Some k → key_of key_at (list_of log notes) text ≡ Some k
key_placed key_at of log notes text n k same opens legal there key =
    let distinct = (list_good key_at of.opening notes opens legal).0 in
    let at : position_of (list_of of notes) text ≡ Some n = position_of_at (list_of of notes) text n distinct there in
    subst (λ (o : InternerId). key_of key_at (list_of o notes) text ≡ Some k) same (ap (option_and_then key_at) at ∙ key)
