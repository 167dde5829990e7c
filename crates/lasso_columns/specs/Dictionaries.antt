-- How writing a list's texts as a layout ends, and how reading a layout's texts into an interner ends.
use Rattle.std.specs.Prelude.{ℕ, ◌≡◌, ◌+◌, ◌-◌, ◌<◌, ◌≤◌, ◌⊎◌, min, max, nat_eq, if◌then◌else◌, List, [], ◌∷◌, ◌++◌, length, take, drop, slice_get, slice_range, Option, None, Some, IfSome, IsSome, IsSomeAnd, Result, Ok, Err, MatchResult, All, IsUtf8}
use Rattle.std.specs.List.{concat}
use Rattle.lasso_parts.specs.Texts.{Text, IsDistinct, position_of}
use Rattle.lasso_parts.specs.declared.util.LassoErrorKind.{LassoErrorKind}
use Rattle.lasso_parts.specs.declared.util.LassoErrorKind.TheVariants.{FailedAllocation}
use Rattle.lasso_single.specs.Filling.{extend}
use Rattle.lasso_single.specs.Intern.{InternsIn}
use Rattle.lasso_single.specs.Interner.{InternerView, made_with}
use Rattle.lasso_parts.specs.Layout.{layout_texts, offsets_from}
use Rattle.lasso_columns.specs.Layout.{layout_fault}
use Rattle.lasso_columns.specs.declared.faults.ReadError.{ReadError}
use Rattle.lasso_columns.specs.declared.faults.ReadError.TheVariants.{OffsetsFall, OffsetPastBytes, NotText, Doubled, Refused}
use Rattle.lasso_columns.specs.declared.faults.WriteError.{WriteError}
use Rattle.lasso_columns.specs.declared.faults.WriteError.TheVariants.{TooManyBytes, NoMemory}

-- why the list's texts from a position on were not written: the text at position `at` is the first that ends
-- past the greatest offset; or none ends past it, and memory ran out
abbrev pub IsWriteFault : ℕ → List Text → ℕ → WriteError → Type 0
IsWriteFault most list from (TooManyBytes at) =
    (from ≤ at) × (at < length list) × (length (concat (slice_range list from at)) ≤ most) × (most < length (concat (slice_range list from (at + 1))))
IsWriteFault most list from NoMemory = length (concat (drop from list)) ≤ most

-- how many texts were appended to a list
abbrev pub appended : List Text → List Text → ℕ
appended old new = length new - length old

-- the position of the text that has the fault
abbrev pub fault_position : ReadError → ℕ
fault_position (OffsetsFall at) = at
fault_position (OffsetPastBytes at) = at
fault_position (NotText at) = at
fault_position (Doubled at) = at
fault_position (Refused at _) = at

-- the error is one of the layout, whatever the interner has
abbrev pub IsOfLayout : ReadError → Type 0
IsOfLayout (OffsetsFall at) = Unit {0}
IsOfLayout (OffsetPastBytes at) = Unit {0}
IsOfLayout (NotText at) = Unit {0}
IsOfLayout (Doubled at) = ⊥
IsOfLayout (Refused at _) = ⊥

-- the layout has a text at this position and no fault up to that text's end, and `P` holds of the text
abbrev pub IsGoodAnd : ℕ → List ℕ → List ℕ → ℕ → (Text → Type 0) → Type 0
IsGoodAnd most bytes offsets n P =
    IfSome (layout_fault most bytes offsets) (λ error. n < fault_position error) × IsSomeAnd (slice_get (layout_texts bytes offsets) n) P

-- why reading a layout ended after its first n texts, which the interner has: the next text has the layout's
-- first fault; or it is good and the interner already has it; or it is good and the interner refuses it
abbrev pub IsFaultAfter : {K : Type 0} → (ℕ → Option K) → ℕ → List ℕ → List ℕ → ℕ → InternerView → ReadError → Type 0
IsFaultAfter key_at most bytes offsets n now (OffsetsFall at) = (at ≡ n) × (layout_fault most bytes offsets ≡ Some (OffsetsFall at))
IsFaultAfter key_at most bytes offsets n now (OffsetPastBytes at) = (at ≡ n) × (layout_fault most bytes offsets ≡ Some (OffsetPastBytes at))
IsFaultAfter key_at most bytes offsets n now (NotText at) = (at ≡ n) × (layout_fault most bytes offsets ≡ Some (NotText at))
IsFaultAfter key_at most bytes offsets n now (Doubled at) = (at ≡ n) × IsGoodAnd most bytes offsets n (λ text. IsSome (position_of now.texts text))
IsFaultAfter {K} key_at most bytes offsets n now (Refused at error) =
    (at ≡ n) × IsGoodAnd most bytes offsets n (λ text. InternsIn {K = K} key_at now text (Err error) now)

-- why a new interner was not filled: there was no memory for it; or the first texts of the layout were
-- appended, and the next one ended the reading
abbrev pub IsRefusedReading : {K : Type 0} → (ℕ → Option K) → ℕ → List ℕ → List ℕ → InternerView → ReadError → Type 0
IsRefusedReading {K} key_at most bytes offsets made error =
    (error ≡ Refused 0 FailedAllocation)
    ⊎ ((now : InternerView) × extend {K = K} key_at made now.texts (Ok tt) now × (now.texts ≡ take (length now.texts) (layout_texts bytes offsets))
    × IsFaultAfter key_at most bytes offsets (length now.texts) now error)

-- how many bytes the first bucket of a new interner for these bytes has
abbrev pub first_bucket : ℕ → List ℕ → ℕ
first_bucket limit bytes = max (min (if nat_eq (length bytes) 0 then 4096 else length bytes) limit) 1

-- the new interner that a layout of these bytes is read into, under this limit
abbrev pub made_to_read : (limit : ℕ) → (bytes : List ℕ) → InternerView
made_to_read limit bytes = made_with (first_bucket limit bytes) limit

-- the first of these texts were interned in order, as many as were appended to the list
abbrev pub InternsAppended : {K : Type 0} → (ℕ → Option K) → (old : InternerView) → List Text → (new : InternerView) → Type 0
InternsAppended key_at old texts new = extend key_at old (take (appended old.texts new.texts) texts) (Ok tt) new

-- a text is appended to the list; or it is refused, as present or by the interner, and nothing changes
abbrev pub AppendsNew : {K : Type 0} → (ℕ → Option K) → ℕ → InternerView → Text → Result (Unit {0}) ReadError → InternerView → Type 0
AppendsNew {K} key_at at old text outcome new =
    MatchResult outcome
    (λ _. ((key : K) × InternsIn key_at old text (Ok key) new) × (new.texts ≡ old.texts ++ text ∷ []))
    (λ error. (new ≡ old) × (((error ≡ Doubled at) × IsSome (position_of old.texts text))
    ⊎ ((kind : LassoErrorKind) × (error ≡ Refused at kind) × InternsIn {K = K} key_at old text (Err kind) old)))

-- the same, unless the text has a fault
abbrev pub AppendsUnless : {K : Type 0} → Option ReadError → (ℕ → Option K) → ℕ → InternerView → Text → Result (Unit {0}) ReadError → InternerView → Type 0
AppendsUnless None key_at at old text outcome new = AppendsNew key_at at old text outcome new
AppendsUnless (Some error) key_at at old text outcome new = (outcome ≡ Err error) × (new ≡ old)

-- what reading gets from the layout that writing makes of the list's texts from a position on
pub record ReadsBack (most : ℕ) (list : List Text) (from : ℕ) (bytes offsets : List ℕ) : Type 0 where
  -- the texts before the position, followed by those of the layout, are the list
  pub list_again : take from list ++ layout_texts bytes offsets ≡ list
  -- the layout has no fault
  pub good : layout_fault most bytes offsets ≡ None
  -- each of its texts is absent until its turn
  pub new : (n : ℕ) (text : Text) → slice_get (layout_texts bytes offsets) n ≡ Some text → position_of (take from list ++ take n (layout_texts bytes offsets)) text ≡ None

-- reading what was written gives the same list, so the same codes: of a distinct list whose texts from a
-- position on are UTF-8 and end at most at the greatest offset
abbrev pub ReadingUndoesWriting : Type 0
ReadingUndoesWriting =
    (most : ℕ) (list : List Text) (from : ℕ)
    → IsDistinct list → All IsUtf8 (drop from list) → length (concat (drop from list)) ≤ most
    → ReadsBack most list from (concat (drop from list)) (offsets_from 0 (drop from list))

-- layouts worked out by hand: `a` is 97, `b` 98, `c` 99, and `é` is 195 169. Tests have those with bytes
-- that are not UTF-8
pub record LayoutsByHand : Type 0 where
  -- the layout of no texts has one offset
  pub none : offsets_from 0 [] ≡ 0 ∷ []
  -- `a`, the empty text, `é`
  pub three : offsets_from 0 ((97 ∷ []) ∷ [] ∷ (195 ∷ 169 ∷ []) ∷ []) ≡ 0 ∷ 1 ∷ 1 ∷ 3 ∷ []
  pub three_bytes : concat ((97 ∷ []) ∷ [] ∷ (195 ∷ 169 ∷ []) ∷ []) ≡ 97 ∷ 195 ∷ 169 ∷ []
  pub three_again : layout_texts (97 ∷ 195 ∷ 169 ∷ []) (0 ∷ 1 ∷ 1 ∷ 3 ∷ []) ≡ (97 ∷ []) ∷ [] ∷ (195 ∷ 169 ∷ []) ∷ []
  -- a layout may begin after the first byte, and end before the last
  pub part : layout_texts (97 ∷ 98 ∷ 99 ∷ []) (1 ∷ 2 ∷ []) ≡ (98 ∷ []) ∷ []
  pub no_offset : layout_fault 9 (97 ∷ []) [] ≡ None
  pub one_offset : layout_fault 9 (97 ∷ []) (1 ∷ []) ≡ None
  pub falls : layout_fault 9 (97 ∷ 98 ∷ []) (2 ∷ 1 ∷ []) ≡ Some (OffsetsFall 0)
  pub past : layout_fault 9 (97 ∷ 98 ∷ []) (0 ∷ 3 ∷ []) ≡ Some (OffsetPastBytes 0)
  pub past_most : layout_fault 1 (97 ∷ 98 ∷ []) (0 ∷ 2 ∷ []) ≡ Some (OffsetPastBytes 0)
  pub first_past : layout_fault 9 (97 ∷ []) (2 ∷ 2 ∷ []) ≡ Some (OffsetPastBytes 0)
