-- A longer list has the texts of a shorter one at their positions.
use Rattle.std.proofs.Common.{◌≡◌, ℕ, List, Some, ap, sym, ◌∙◌}
use Rattle.std.specs.Prelude.{slice_get}
use Rattle.std.proofs.lemmas.Option.{slice_get_within}
use mathlib.Core.List.{IsPrefix}
use Rattle.lasso_parts.specs.Texts.{Text}
use Rattle.lasso_parts.proofs.IndexLaws.{slice_get-append_left}
use Rattle.lasso_log.specs.Notes.{NoteView}
use Rattle.lasso_log.specs.Views.{InternerId, list_of}
use Rattle.lasso_log.proofs.Lengths.{texts_past}

read_past : (texts later : List Text) (text : Text) (n : ℕ) → IsPrefix texts later → slice_get texts n ≡ Some text → slice_get later n ≡ Some text
read_past texts later text n more at =
    ap (λ (ts : List Text). slice_get ts n) (sym more.1) ∙ (slice_get-append_left texts more.0 n (slice_get_within texts n text at) ∙ at)

-- the same of the lists of two histories, of which one begins the other
pub seen_past : (of : InternerId) (before after : List NoteView) (text : Text) (n : ℕ) → IsPrefix before after → slice_get (list_of of before) n ≡ Some text → slice_get (list_of of after) n ≡ Some text
seen_past of before after text n more at = read_past (list_of of before) (list_of of after) text n (texts_past of.opening before after more) at
