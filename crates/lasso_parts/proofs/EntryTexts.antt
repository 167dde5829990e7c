-- Lists of entries while the arena stores texts.
--
-- A text that an entry has itself, and a static one, are the same whatever the regions are. A copied text has a
-- span, and the regions keep the texts of spans, and where they lie. The list of the texts that are too long for an
-- entry keeps each at its place. So the texts of a list stay, and one entry more at the end of the list appends its
-- text.
use Rattle.std.proofs.Common.{◌≡◌, ◌∙◌, ℕ, List, [], ◌∷◌, ◌++◌, length, get_or, ap, refl, sym, subst, arith}
use Rattle.std.proofs.lemmas.List.{map-append, get_or_append_left, length-append}
use Rattle.std.proofs.Math.Seq.{get_or-append_seam}
use Rattle.std.proofs.lemmas.List.Elements.{All-head, All-tail, All-same, All-push, All-weaker}
use denote.RawPtr.{Ptr}
use Rattle.lasso_parts.specs.Texts.{Text}
use Rattle.lasso_parts.specs.Bucket.{Extent}
use Rattle.lasso_parts.specs.Arena.{KeepsTexts}
use Rattle.lasso_parts.specs.Entries.{Source, Copied, Static, LentText, LiesAt, source_text, lent_bytes, IsLent}
use Rattle.lasso_parts.specs.Entries.{EntryView, Inside, Outside, Listed, no_text, entry_text, IsThere, AllThere, texts_of, KeepsPlaces}

source_kept : (earlier later : List Extent) (at : Ptr) (s : Source) → KeepsTexts earlier later → LiesAt earlier at s → LiesAt later at s × (source_text later s ≡ source_text earlier s)
source_kept earlier later at (Copied span) keeps lies =
    let kept = keeps span lies.0 in
    ((kept.stored, lies.1 ∙ sym kept.address), kept.text)
source_kept earlier later at (Static text) keeps lies = (tt, refl)

-- a text outside the entries stays
lent_kept : (earlier later : List Extent) (t : LentText) → KeepsTexts earlier later → IsLent earlier t → IsLent later t × (lent_bytes later t ≡ lent_bytes earlier t)
lent_kept earlier later t = source_kept earlier later t.at t.source

-- the list that stays as it is keeps its places
pub places_same : (vast : List LentText) → KeepsPlaces vast vast
places_same vast k inside = (inside, refl)

-- and so does the list with one text more
pub places_push : (vast more : List LentText) (t : LentText) → more ≡ vast ++ t ∷ [] → KeepsPlaces vast more
places_push vast more t e =
    subst (KeepsPlaces vast) (sym e) (λ k inside. (omega (arith, inside, length-append vast (t ∷ [])), get_or_append_left vast (t ∷ []) no_text k inside))

-- an entry's text stays
pub entry_kept : (earlier later : List Extent) (vast more : List LentText) (entry : EntryView) → KeepsTexts earlier later → KeepsPlaces vast more → IsThere earlier vast entry
    → IsThere later more entry × (entry_text later more entry ≡ entry_text earlier vast entry)
entry_kept earlier later vast more (Inside text) keeps places there = (tt, refl)
entry_kept earlier later vast more (Outside t) keeps places there = lent_kept earlier later t keeps there
entry_kept earlier later vast more (Listed k) keeps places there =
    let place = places k there.0 in
    let kept = lent_kept earlier later (get_or vast k no_text) keeps there.1 in
    ((place.0, subst (IsLent later) (sym place.1) kept.0), ap (lent_bytes later) place.1 ∙ kept.1)

-- a list's texts stay there
pub there_kept : (earlier later : List Extent) (vast more : List LentText) (entries : List EntryView) → KeepsTexts earlier later → KeepsPlaces vast more → AllThere earlier vast entries → AllThere later more entries
there_kept earlier later vast more entries keeps places all =
    All-weaker (IsThere earlier vast) (IsThere later more) (λ s h. (entry_kept earlier later vast more s keeps places h).0) entries all

-- a list's texts stay the same
pub texts_kept : (earlier later : List Extent) (vast more : List LentText) (entries : List EntryView) → KeepsTexts earlier later → KeepsPlaces vast more → AllThere earlier vast entries
    → texts_of later more entries ≡ texts_of earlier vast entries
texts_kept earlier later vast more [] keeps places all = refl
texts_kept earlier later vast more (s ∷ entries) keeps places all =
    let first = entry_kept earlier later vast more s keeps places (All-head (IsThere earlier vast) s entries all) in
    let others : texts_of later more entries ≡ texts_of earlier vast entries = texts_kept earlier later vast more entries keeps places (All-tail (IsThere earlier vast) s entries all) in
    ap (λ (t : Text). t ∷ texts_of later more entries) first.1 ∙ ap (λ (ts : List Text). entry_text earlier vast s ∷ ts) others

module _ (earlier later : List Extent) (vast more : List LentText) (entries grown : List EntryView) (entry : EntryView) (all : AllThere earlier vast entries) (keeps : KeepsTexts earlier later)
    (places : KeepsPlaces vast more) (e : grown ≡ entries ++ entry ∷ []) where
  -- one entry more, whose text is present
  pub there_pushed : IsThere later more entry → AllThere later more grown
  there_pushed there = All-same (IsThere later more) grown (entries ++ entry ∷ []) e (All-push (IsThere later more) entries entry (there_kept earlier later vast more entries keeps places all) there)

  -- one entry more appends its text
  pub texts_pushed : (text : Text) → entry_text later more entry ≡ text → texts_of later more grown ≡ texts_of earlier vast entries ++ text ∷ []
  texts_pushed text is =
      ap (texts_of later more) e ∙ map-append (entry_text later more) entries (entry ∷ []) ∙ ap (λ (ts : List Text). ts ++ entry_text later more entry ∷ []) (texts_kept earlier later vast more entries keeps places all)
      ∙ ap (λ (t : Text). texts_of earlier vast entries ++ t ∷ []) is

-- the place at the end of the list, once it has one text more
module _ (vast more : List LentText) (t : LentText) (entry : EntryView) (index : ℕ) (grown : more ≡ vast ++ t ∷ []) (last : index ≡ length vast) (is : entry ≡ Listed index) where
  at_last : get_or more index no_text ≡ t
  at_last = ap (λ (k : ℕ). get_or more k no_text) last ∙ ap (λ (ts : List LentText). get_or ts (length vast) no_text) grown ∙ get_or-append_seam vast t [] no_text

  -- leads to that text
  pub listed_there : (regions : List Extent) → IsLent regions t → IsThere regions more entry
  listed_there regions lent = subst (IsThere regions more) (sym is) (omega (arith, last, ap length grown, length-append vast (t ∷ [])), subst (IsLent regions) (sym at_last) lent)

  -- and stands for it
  pub listed_text : (regions : List Extent) → entry_text regions more entry ≡ lent_bytes regions t
  listed_text regions = ap (entry_text regions more) is ∙ ap (lent_bytes regions) at_last
