-- Texts that are counted after others.
use Rattle.std.specs.Prelude.{ℕ, ◌≡◌, ◌+◌, ◌<◌, ◌≤◌, ◌⊎◌, List, ◌++◌, length, sum, take, slice_get, codes, decimal, Vec, vec_capacity, vec_len, None, IsSome, IsSomeAnd, Result, Ok, Err, MatchResult}
use Rattle.lasso_parts.specs.Errors.{error_text}
use Rattle.lasso_parts.specs.Texts.{Text, position_of, IsDistinct}
use Rattle.lasso_parts.specs.declared.util.LassoError.{LassoError}
use Rattle.lasso_single.specs.Codes.{AreCodes}
use Rattle.lasso_single.specs.Intern.{InternsIn}
use Rattle.lasso_single.specs.Interner.{InternerView}
use Rattle.lasso_single.specs.Coding.{spur_at, IsRefused, MayLackMemory}
use Rattle.lasso_columns.specs.Counts.{count_of, count_at, counted}
use Rattle.lasso_columns.specs.declared.counts.error.CountError.{CountError}

-- what the error prints
abbrev pub count_error_text : CountError → List ℕ
count_error_text error = codes "text at position " ++ (decimal error.position ++ (codes ": " ++ error_text error.error))

-- the texts that were counted: all, or those before the one that was refused
abbrev pub counted_of : Result (Unit {0}) CountError → List Text → List Text
counted_of (Ok done) texts = texts
counted_of (Err error) texts = take error.position texts

-- the count of each text has grown by the number of times that it is among `texts`, and each text of the new
-- list has a count. A text of the list before that has no count counts as 0
pub record AddsCounts (texts before : List Text) (counts : List ℕ) (after : List Text) (counts' : List ℕ) : Type 0 where
  pub each : (text : Text) → count_at counts' (position_of after text) ≡ count_at counts (position_of before text) + count_of texts text
  pub lengths : length counts' ≡ length after
  pub total : sum counts' ≡ sum counts + length texts

-- the count of each text has grown by its amount; `amounts` has one for each text of `from`
pub record AddsAmounts (list from : List Text) (amounts old new : List ℕ) : Type 0 where
  pub each : (text : Text) → count_at new (position_of list text) ≡ count_at old (position_of list text) + count_at amounts (position_of from text)
  pub long : length new ≡ length old
  pub total : sum new ≡ sum old + sum amounts

-- counts of the texts of a list, one for each, have grown: each by how often its text is among texts that have these codes in the list
abbrev pub CountsCodes : (codes before after : List ℕ) → Type 0
CountsCodes codes before after = (list texts : List Text) → length before ≡ length list → AreCodes list texts codes → AddsCounts texts list before list after

-- counts of the texts of a list, one for each, have grown by these amounts at these places, which are the codes of distinct texts in the list
abbrev pub AddsAmountsAt : (places amounts before after : List ℕ) → Type 0
AddsAmountsAt places amounts before after =
    (list from : List Text) → length before ≡ length list → IsDistinct from → AreCodes list from places → AddsAmounts list from amounts before after

-- the text at the error's position was refused with it, as `IsRefused` of `lasso_single` says
abbrev pub IsRefusedAmong : InternerView → List Text → CountError → Type 0
IsRefusedAmong now texts error = IsSomeAnd (slice_get texts error.position) (λ text. IsRefused now text error.error)

-- A refused text is absent. It is out of memory only if the counts have no room for one more, or neither the
-- keys nor the limit refuse it.
abbrev pub RefusesNew : {A : Type 0} → InternerView → Vec ℕ A → Text → LassoError → Type 0
RefusesNew now counts text error = (position_of now.texts text ≡ None) × MayLackMemory now counts text error

-- so it is with the text at the error's position
abbrev pub RefusesNewAmong : {A : Type 0} → InternerView → Vec ℕ A → List Text → CountError → Type 0
RefusesNewAmong now counts texts error = IsSomeAnd (slice_get texts error.position) (λ text. RefusesNew now counts text error.error)

-- the text is interned and its count is one more; or it is refused, and all is as it was
abbrev pub CountsText : {A : Type 0} → InternerView → Vec ℕ A → Text → Result (Unit {0}) LassoError → InternerView → Vec ℕ A → Type 0
CountsText old counts text result new counts' =
    MatchResult result
    (λ _. ((key : ℕ) × InternsIn {K = ℕ} spur_at old text (Ok key) new) × (counts'.items ≡ counted counts.items (position_of old.texts text)))
    (λ error. (new ≡ old) × (counts'.items ≡ counts.items) × IsRefused old text error × RefusesNew old counts' text error)

-- The counts lose no room. They get more only for an absent text, and only if they have none for one more.
abbrev pub KeepsRoom : {A : Type 0} → InternerView → Vec ℕ A → Text → Vec ℕ A → Type 0
KeepsRoom old counts text counts' =
    (vec_capacity counts ≤ vec_capacity counts')
    × ((vec_len counts < vec_capacity counts) ⊎ IsSome (position_of old.texts text) → vec_capacity counts' ≡ vec_capacity counts)
