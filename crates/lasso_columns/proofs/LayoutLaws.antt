-- Texts that are written one after another are cut out again, and their layout has no fault.
--
-- The proofs go from text to text, and each text joins the bytes in front of the next. A text of a distinct list
-- differs from all before it, so no text is doubled when they are read in order.
use Rattle.std.proofs.Common.{ℕ, suc, ◌≡◌, ◌+◌, ◌-◌, ◌<◌, ◌≤◌, false, List, [], ◌∷◌, ◌++◌, length, take, drop, slice_get, Option, Some, None, refl, ap, sym, subst, ◌∙◌, arith, length-append, append_assoc, length-drop}
use Rattle.std.specs.Prelude.{All}
use Rattle.std.specs.List.{slice_range, concat}
use Rattle.std.specs.Option.{option_or}
use Rattle.std.specs.Str.{IsUtf8, is_utf8}
use Rattle.std.proofs.Math.Seq.{take-add}
use Rattle.std.proofs.lemmas.Bool.Decides.{nat_tests}
use Rattle.std.proofs.lemmas.List.{take-append-drop, get_or-drop}
use Rattle.std.proofs.lemmas.Option.{slice_get_within, slice_get-get_or, get_or_from_slice_get}
use Rattle.std.proofs.lemmas.Bool.{false_from_ne_true}
use Rattle.std.proofs.lemmas.Str.{IsUtf8-from_is_utf8, is_utf8-from_IsUtf8}
use Rattle.lasso_parts.proofs.IndexLaws.{absent_before}
use Rattle.lasso_parts.specs.Texts.{Text, IsDistinct, position_of}
use Rattle.lasso_columns.specs.Dictionaries.{ReadingUndoesWriting, LayoutsByHand}
use Rattle.lasso_parts.proofs.LayoutTexts.{slice_here, behind, texts_back}
use Rattle.lasso_parts.specs.Layout.{reach, texts_from, layout_texts, offsets_from}
use Rattle.lasso_columns.specs.Layout.{start_fault, text_fault, texts_fault, layout_fault}
use Rattle.lasso_columns.specs.declared.faults.ReadError.{ReadError}
use Rattle.lasso_columns.specs.declared.faults.ReadError.TheVariants.{NotText}

all_head : {X : Type 0} (P : X → Type 0) (x : X) (xs : List X) → All P (x ∷ xs) → P x
all_head P x xs all = all 0 x (omega arith)

all_tail : {X : Type 0} (P : X → Type 0) (x : X) (xs : List X) → All P (x ∷ xs) → All P xs
all_tail P x xs all = λ k d small. all (suc k) d (omega arith)

-- a UTF-8 text between two rising offsets that are within reach has no fault
pub good_text : (most : ℕ) (bytes : List ℕ) (at from to : ℕ) → from ≤ to → to ≤ reach most bytes → IsUtf8 (slice_range bytes from to) → text_fault most bytes at from to ≡ None
good_text most bytes at from to rises within utf8 = let is = is_utf8-from_IsUtf8 (slice_range bytes from to) utf8 in grind (arith, nat_tests)

pub not_text : (most : ℕ) (bytes : List ℕ) (at from to : ℕ) → from ≤ to → to ≤ reach most bytes → ¬ (IsUtf8 (slice_range bytes from to)) → text_fault most bytes at from to ≡ Some (NotText at)
not_text most bytes at from to rises within not_utf8 = let is_not : is_utf8 (slice_range bytes from to) ≡ false = false_from_ne_true _ (λ e. not_utf8 (IsUtf8-from_is_utf8 (slice_range bytes from to) e)) in grind (arith, nat_tests)

-- the first fault of the texts between these offsets, if there is one
faults_at : ℕ → List ℕ → ℕ → List ℕ → Option ReadError
faults_at most bytes k [] = None
faults_at most bytes k (from ∷ offsets) = texts_fault most bytes k from offsets

fault_first : (most : ℕ) (bytes : List ℕ) (k from end : ℕ) (texts : List Text) → texts_fault most bytes k from (offsets_from end texts) ≡ option_or (text_fault most bytes k from end) (faults_at most bytes (k + 1) (offsets_from end texts))
unfolding faults_at
fault_first most bytes k from end [] = refl
fault_first most bytes k from end (text ∷ texts) = refl

start_then : (most : ℕ) (bytes : List ℕ) (at : ℕ) (texts : List Text) → start_fault most bytes at ≡ None → layout_fault most bytes (offsets_from at texts) ≡ faults_at most bytes 0 (offsets_from at texts)
unfolding faults_at
start_then most bytes at [] good = ap (λ o. option_or o None) good
start_then most bytes at (text ∷ texts) good = ap (λ o. option_or o (texts_fault most bytes 0 at (offsets_from (at + length text) texts))) good

-- texts at their own offsets have no fault
no_faults : (most : ℕ) (front : List ℕ) (texts : List Text) (at k : ℕ) → at ≡ length front → All IsUtf8 texts → length (front ++ concat texts) ≤ most → faults_at most (front ++ concat texts) k (offsets_from at texts) ≡ None
unfolding faults_at
no_faults most front [] at k e utf8 small = refl
no_faults most front (text ∷ texts) at k e utf8 small =
    let end = at + length text in
    let bytes = front ++ (text ++ concat texts) in
    let here = slice_here front text (concat texts) at e in
    let whole = length-append front (text ++ concat texts) in
    let two = length-append text (concat texts) in
    let good : text_fault most bytes k at end ≡ None = good_text most bytes k at end (omega arith) (omega arith) (subst IsUtf8 (sym here) (all_head IsUtf8 text texts utf8)) in
    let same = append_assoc front text (concat texts) in
    let others : faults_at most bytes (k + 1) (offsets_from end texts) ≡ None = ap (λ b. faults_at most b (k + 1) (offsets_from end texts)) (sym same) ∙ no_faults most (front ++ text) texts end (k + 1) (behind front text at e) (all_tail IsUtf8 text texts utf8) (omega (arith, ap length same)) in
    fault_first most bytes k at end texts ∙ ap (λ o. option_or o (faults_at most bytes (k + 1) (offsets_from end texts))) good ∙ others

written_good : (most : ℕ) (texts : List Text) → All IsUtf8 texts → length (concat texts) ≤ most → layout_fault most (concat texts) (offsets_from 0 texts) ≡ None
written_good most texts utf8 small =
    start_then most (concat texts) 0 texts (grind (arith, nat_tests)) ∙ no_faults most [] texts 0 0 refl utf8 small

-- text `n` of those from `from` on is text `from + n` of the list
text_behind : (list : List Text) (from n : ℕ) (text : Text) → slice_get (drop from list) n ≡ Some text → slice_get list (from + n) ≡ Some text
text_behind list from n text is =
    let inside : from + n < length list = omega (arith, slice_get_within (drop from list) n text is, length-drop from list) in
    slice_get-get_or list (from + n) [] inside ∙ ap (λ (t : Text). Some t) (sym (get_or-drop from list n []) ∙ get_or_from_slice_get (drop from list) n text [] is)

-- and in a distinct list it differs from all before it
none_before : (list : List Text) (from n : ℕ) (text : Text) → IsDistinct list → slice_get (drop from list) n ≡ Some text → position_of (take from list ++ take n (drop from list)) text ≡ None
none_before list from n text distinct is =
    subst (λ (ts : List Text). position_of ts text ≡ None) (take-add from n list) (absent_before list (from + n) text distinct (text_behind list from n text is))

pub undoes_writing : ReadingUndoesWriting
undoes_writing most list from distinct utf8 small =
    let rest = drop from list in
    let stands : layout_texts (concat rest) (offsets_from 0 rest) ≡ rest = texts_back [] rest 0 refl in
    record {
      list_again = ap (λ (ts : List Text). take from list ++ ts) stands ∙ take-append-drop from list;
      good = written_good most rest utf8 small;
      new = λ n text is. subst (λ (ts : List Text). position_of (take from list ++ take n ts) text ≡ None) (sym stands) (none_before list from n text distinct (subst (λ (ts : List Text). slice_get ts n ≡ Some text) stands is));
    }

pub by_hand : LayoutsByHand
by_hand = record {
  none = refl;
  three = refl;
  three_bytes = refl;
  three_again = refl;
  part = refl;
  no_offset = refl;
  one_offset = refl;
  falls = refl;
  past = refl;
  past_most = refl;
  first_past = refl;
}
