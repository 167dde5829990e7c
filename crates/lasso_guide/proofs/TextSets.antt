-- The texts of spans while an arena stores more, and a list with its index when a text goes last.
--
-- An arena keeps the texts that it has, at the same spans: so the spans' texts stay, and one span more appends
-- its text. A text that was not found goes last: its position is the list's length, which has a key.
use Rattle.std.proofs.Common.{◌≡◌, ◌∙◌, ℕ, ◌+◌, ◌⊎◌, ◌↔◌, List, [], ◌∷◌, ◌++◌, map, length, Option, Some, None, Result, Ok, Err, IfOk, IsSome, slice_get, ap, refl, sym, subst, arith}
use Rattle.std.specs.Prelude.{is_some, if◌then◌else◌}
use Rattle.std.proofs.lemmas.List.{map_push, length_push}
use Rattle.std.proofs.lemmas.List.Elements.{All-head, All-tail, All-same, All-push, All-weaker}
use Rattle.lasso.specs.Arena.{text_at, IsStored, KeepsTexts}
use Rattle.lasso.specs.Bucket.{Extent}
use Rattle.lasso.specs.Index.{Table, used, Holds, HoldsNone, IsIndexOf, StaysFiled}
use Rattle.lasso.specs.Texts.{Text, position_of, Fits}
use Rattle.lasso.specs.Span.{Span}
use Rattle.lasso.proofs.IndexLaws.{IsIndexOf-nil, IsIndexOf-push, position_of_at, slice_get_push}
use Rattle.lasso.proofs.TextLemmas.{fits_push}
use Rattle.lasso.specs.Interning.{with_last}
use Rattle.lasso_guide.specs.TextSets.{texts_in, AreStored}

texts_kept : (old new : List Extent) (spans : List Span) → KeepsTexts old new → AreStored old spans → texts_in new spans ≡ texts_in old spans
texts_kept old new [] keeps all = refl
texts_kept old new (s ∷ spans) keeps all =
    let first = (keeps s (All-head (IsStored old) s spans all)).text in
    let others : texts_in new spans ≡ texts_in old spans = texts_kept old new spans keeps (All-tail (IsStored old) s spans all) in
    ap (λ (t : Text). t ∷ texts_in new spans) first ∙ ap (λ (ts : List Text). text_at old s ∷ ts) others

module _ (old new : List Extent) (spans grown : List Span) (span : Span) (all : AreStored old spans) (keeps : KeepsTexts old new) (e : grown ≡ spans ++ span ∷ []) where
  -- one span more, whose text is stored
  pub stored_pushed : IsStored new span → AreStored new grown
  stored_pushed there =
      All-same (IsStored new) grown (spans ++ span ∷ []) e (All-push (IsStored new) spans span (All-weaker (IsStored old) (IsStored new) (λ s h. (keeps s h).stored) spans all) there)

  -- appends it
  pub texts_pushed : (text : Text) → text_at new span ≡ text → texts_in new grown ≡ texts_in old spans ++ text ∷ []
  texts_pushed text is =
      ap (texts_in new) e ∙ map_push (text_at new) spans span ∙ ap (λ (ts : List Text). ts ++ text_at new span ∷ []) (texts_kept old new spans keeps all)
      ∙ ap (λ (t : Text). texts_in old spans ++ t ∷ []) is

module _ {K : Type 0} (hash_of : Text → ℕ) (key_at : ℕ → Option K) where
  -- the index is that of the list, which fits the keys
  abbrev pub IsSet : List Text → Table → Type 0
  IsSet texts index = IsIndexOf hash_of texts index × Fits key_at (length texts)

  -- that of the empty list holds nothing
  pub set_empty : (texts : List Text) (index : Table) → texts ≡ [] → HoldsNone index.slots → IsSet texts index
  set_empty texts index empty none = subst (λ (ts : List Text). IsSet ts index) (sym empty) (IsIndexOf-nil hash_of index none, λ i inside. absurd (omega arith))

  -- a text that was not found goes last, and its position into the index
  pub set_pushed : (texts more : List Text) (text : Text) (hash n : ℕ) (old mid new : Table) → IsSet texts old → IsIndexOf hash_of texts mid → position_of texts text ≡ None → more ≡ texts ++ text ∷ [] → n ≡ length texts → IsSome (key_at (length texts)) → hash ≡ hash_of text → ((m : ℕ) → Holds new.slots m ↔ (Holds mid.slots m ⊎ (m ≡ n))) → used new.slots ≡ used mid.slots + 1 → StaysFiled hash n mid new → IsSet more new
  set_pushed texts more text hash n old mid new whole index absent e last more_keys hashed entered one stays =
      subst (λ (ts : List Text). IsSet ts new) (sym e) (IsIndexOf-push hash_of texts text hash n mid new index absent last hashed entered one stays, rw (length_push texts text) (fits_push key_at (length texts) whole.1 more_keys))

-- a text that was not found is in the list afterwards, at the last position
pub inserted : {E : Type 0} (hash_of : Text → ℕ) (texts more : List Text) (text : Text) (reply : Result ℕ E) (index : Table) → IsIndexOf hash_of more index → position_of texts text ≡ None → IfOk reply (λ n. (more ≡ texts ++ text ∷ []) × (n ≡ length texts)) → IfOk reply (λ n. (more ≡ with_last texts text) × (position_of more text ≡ Some n))
inserted hash_of texts more text (Ok n) index whole absent went = (
  went.0 ∙ sym (ap (λ (o : Option ℕ). if is_some o then texts else texts ++ text ∷ []) absent),
  position_of_at more text n whole.distinct (ap (λ (ts : List Text). slice_get ts n) went.0 ∙ ap (slice_get (texts ++ text ∷ [])) went.1 ∙ slice_get_push texts text),
)
inserted hash_of texts more text (Err error) index whole absent went = tt
