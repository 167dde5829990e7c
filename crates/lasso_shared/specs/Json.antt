-- A shared interner as JSON: what a call that writes its list replies, and how a value is read.
use Rattle.std.specs.Prelude.{◌≡◌, ◌⊎◌, ◌≤◌, ◌^◌, ℕ, List, Option, Some, None, true, Result, Ok, Err, IsOk}
use Rattle.serde_json.specs.Data.{Data, Items}
use Rattle.serde_json.specs.Find.{as_array}
use Rattle.lasso_parts.specs.Json.{json_array, read_array, TakesText, ReadsOr}
use Rattle.lasso_parts.specs.JsonObjects.{json_object, read_object, TakesPosition}
use Rattle.lasso_parts.specs.Texts.{Text}
use Rattle.lasso_parts.specs.declared.json.error.JsonError.{JsonError}
use Rattle.lasso_parts.specs.declared.json.error.JsonError.TheVariants.{Lasso}
use Rattle.lasso_parts.specs.declared.util.LassoErrorKind.{LassoErrorKind}
use Rattle.lasso_parts.specs.declared.util.LassoErrorKind.TheVariants.{FailedAllocation}
use Rattle.lasso_single.specs.Copies.{bytes_of}

-- the reply of a call that gives something made of the whole list, or finds no memory for it
abbrev pub written_of : {A E : Type 0} → List Text → Result A E → Result (List Text) LassoErrorKind
written_of texts (Ok value) = Ok texts
written_of texts (Err error) = Err FailedAllocation

-- the value is the array of the list's texts, or the object from each to its position plus one
abbrev pub IsJsonOf : List Text → Data → Type 0
IsJsonOf list d = (d ≡ json_object list) ⊎ (d ≡ json_array list)

-- the list of an array, or of the object that any other value has to be
abbrev pub read_by_form : {K : Type 0} → (ℕ → Option K) → Data → Option Items → Result (List Text) JsonError
read_by_form key_at d None = read_object key_at d
read_by_form key_at d (Some ds) = read_array key_at true d

-- the list that a value is read as, or what is wrong with it: an array by its items, any other value as an
-- object. So a value that is neither is `NotAnObject`, and `NotAnArray` is never the fault
abbrev pub read_list : {K : Type 0} → (ℕ → Option K) → Data → Result (List Text) JsonError
read_list key_at d = read_by_form key_at d (as_array d)

-- the result is the list that the value is read as, or what is wrong with it; or out of memory, unless the
-- value is neither an array nor an object, or its first item or member is faulty
abbrev pub ReadsList : {K : Type 0} → (ℕ → Option K) → Data → Result (List Text) JsonError → Type 0
ReadsList key_at d answer = ReadsOr (TakesText key_at d ⊎ TakesPosition key_at d) (read_list key_at d) answer

-- the reply is the list that the value is read as, or what is wrong with it; or memory ran out, unless the
-- value is neither an array nor an object, or its first item or member is faulty
abbrev pub ReadsShared : {K : Type 0} → (ℕ → Option K) → Data → Result (List Text) JsonError → Type 0
ReadsShared key_at d answer =
    let read = read_list key_at d in ReadsOr (TakesText key_at d ⊎ TakesPosition key_at d ⊎ IsOk read) read answer

-- a value that is read as a list of 2 ^ 64 bytes or more is refused as out of memory
abbrev pub RefusesTooLong : {K A : Type 0} → (ℕ → Option K) → Data → Result A JsonError → Type 0
RefusesTooLong key_at d answer = (list : List Text) → read_list key_at d ≡ Ok list → 2 ^ 64 ≤ bytes_of list → answer ≡ Err (Lasso FailedAllocation)
