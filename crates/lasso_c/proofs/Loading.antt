-- Texts that are saved and loaded have the same codes again.
--
-- A text of a distinct list is none of those before it. So each text that is interned is appended.
use Rattle.std.proofs.Common.{◌≡◌, List, [], ◌∷◌, ◌++◌, length, slice_get, is_some, if◌then◌else◌, Some, None, refl, sym, ap, subst, ◌∙◌, append_assoc, append-nil}
use Rattle.std.proofs.Math.Seq.{take-append_seam}
use Rattle.lasso_parts.specs.Texts.{Text, IsDistinct, position_of}
use Rattle.lasso_parts.proofs.IndexLaws.{absent_before, position_of_at}
use Rattle.lasso_c.specs.Encoding.{with_new, with_all_new}
use Rattle.lasso_c.specs.Laws.{LoadingUndoesSaving}
use Rattle.lasso_parts.proofs.LayoutTexts.{texts_back}

here : (before rest : List Text) (text : Text) → slice_get (before ++ text ∷ rest) (length before) ≡ Some text
here [] rest text = refl
here (other ∷ before) rest text = here before rest text

absent : (before rest : List Text) (text : Text) → IsDistinct (before ++ text ∷ rest) → position_of before text ≡ None
absent before rest text distinct = subst (λ (ts : List Text). position_of ts text ≡ None) (take-append_seam before (text ∷ rest)) (absent_before (before ++ text ∷ rest) (length before) text distinct (here before rest text))

appended : (before rest : List Text) → IsDistinct (before ++ rest) → with_all_new before rest ≡ before ++ rest
appended before [] distinct = sym (append-nil before)
appended before (text ∷ rest) distinct =
    let one : with_new before text ≡ before ++ text ∷ [] = ap (λ o. if is_some o then before else before ++ text ∷ []) (absent before rest text distinct) in
    let moved : (before ++ text ∷ []) ++ rest ≡ before ++ text ∷ rest = append_assoc before (text ∷ []) rest in
    ap (λ (ts : List Text). with_all_new ts rest) one ∙ appended (before ++ text ∷ []) rest (subst IsDistinct (sym moved) distinct) ∙ moved

pub undoes_saving : LoadingUndoesSaving
undoes_saving texts distinct = record {
  saved = texts_back [] texts 0 refl;
  loaded = appended [] texts distinct;
  coded = λ code text is. position_of_at texts text code distinct is;
}
