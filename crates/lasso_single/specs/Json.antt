-- Interners read from JSON.
use Rattle.std.specs.Prelude.{◌≡◌, ◌⊎◌, ◌≤◌, ◌^◌, ℕ, List, [], Bool, true, false, Option, None, Some, Result, Ok, Err, IsOk}
use Rattle.serde_json.specs.Data.{Data, Items, item}
use Rattle.serde_json.specs.Find.{as_array}
use Rattle.lasso_parts.specs.Json.{next_text, read_array, TakesText, ReadsOr}
use Rattle.lasso_parts.specs.Texts.{Text}
use Rattle.lasso_parts.specs.declared.json.error.JsonError.{JsonError}
use Rattle.lasso_parts.specs.declared.json.error.JsonError.TheVariants.{Lasso, NotAnArray}
use Rattle.lasso_parts.specs.declared.util.LassoErrorKind.TheVariants.{FailedAllocation}
use Rattle.lasso_single.specs.Copies.{bytes_of}

-- what an array's texts must be: each differs from the others
abbrev pub must_differ : Bool
must_differ = true

-- or texts may come twice
abbrev pub may_repeat : Bool
may_repeat = false

-- the result is the list that the value is read as, or what is wrong with it; or out of memory, unless the
-- value is no array or its first item is faulty. An interner is made even of an empty array, so out of memory
-- may come in place of any list
abbrev pub ReadsInto : {K : Type 0} → (ℕ → Option K) → Bool → Data → Result (List Text) JsonError → Type 0
ReadsInto key_at distinct d answer =
    let read = read_array key_at distinct d in ReadsOr (TakesText key_at d ⊎ IsOk read) read answer

-- memory ran out, as it may unless the value is no array or its first item is faulty
abbrev pub IsOutOfMemory : {K : Type 0} → (ℕ → Option K) → Bool → Data → JsonError → Type 0
IsOutOfMemory key_at distinct d error = (error ≡ Lasso FailedAllocation) × (TakesText key_at d ⊎ IsOk (read_array key_at distinct d))

-- an array whose texts have 2 ^ 64 bytes or more, which a `usize` can't count, is refused as out of memory
abbrev pub RefusesUncountableBytes : {K A : Type 0} → (ℕ → Option K) → Bool → Data → Result A JsonError → Type 0
RefusesUncountableBytes key_at distinct d answer =
    (texts : List Text) → read_array key_at distinct d ≡ Ok texts → 2 ^ 64 ≤ bytes_of texts → answer ≡ Err (Lasso FailedAllocation)

-- a value that is no array is refused as such
abbrev pub RefusesNoArray : {A : Type 0} → Data → Result A JsonError → Type 0
RefusesNoArray d answer = as_array d ≡ None → answer ≡ Err NotAnArray

-- an array whose first item is faulty is refused with its fault
abbrev pub RefusesFirstItem : {K A : Type 0} → (ℕ → Option K) → Bool → Data → Result A JsonError → Type 0
RefusesFirstItem key_at distinct d answer =
    (first : Data) (others : Items) (fault : JsonError)
    → as_array d ≡ Some (item first others) → next_text key_at distinct [] first ≡ Err fault → answer ≡ Err fault
