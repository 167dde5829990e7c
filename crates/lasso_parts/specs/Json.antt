-- Lists of texts and keys as JSON: what is written, and how a value is read. What a JSON value is is the word
-- of `serde_json` (`Data` of its specs): contracts see the value of a `Value` by `view`.
use Rattle.std.specs.Prelude.{◌≡◌, ◌⊎◌, ℕ, zero, suc, List, [], ◌∷◌, ◌++◌, length, map, Bool, IsTrue, if◌then◌else◌, Option, Some, None, IsSome, option_and_then, Result, Ok, Err}
use Rattle.serde_json.specs.Data.{Data, string, array, Items, no_items, item}
use Rattle.serde_json.specs.Find.{as_str, as_array, as_number, as_u64}
use Rattle.serde_json.specs.View.{items_of}
use Rattle.lasso_parts.specs.Index.{Table, IsIndexOf}
use Rattle.lasso_parts.specs.Texts.{Text, position_of}
use Rattle.lasso_parts.specs.declared.util.LassoErrorKind.TheVariants.{FailedAllocation}
use Rattle.lasso_parts.specs.declared.json.error.JsonError.{JsonError}
use Rattle.lasso_parts.specs.declared.json.error.JsonError.TheVariants.{NotAnArray, NotText, Doubled, TooMany, Lasso, NotAKey}

-- ---- lists of texts

-- the array of the texts, in order
abbrev pub json_array : List Text → Data
json_array texts = array (items_of (map string texts))

-- the text of an item, if it is one
abbrev pub item_text : ℕ → Option Text → Result Text JsonError
item_text at None = Err (NotText at)
item_text at (Some text) = Ok text

-- the key of a position, if there is one
abbrev pub key_or_too_many : {K : Type 0} → ℕ → Option K → Result K JsonError
key_or_too_many at None = Err (TooMany at)
key_or_too_many at (Some key) = Ok key

-- a result goes on to the next, unless it is a fault
abbrev pub and_then : {A B : Type 0} → Result A JsonError → (A → Result B JsonError) → Result B JsonError
and_then (Err fault) rest = Err fault
and_then (Ok value) rest = rest value

-- the position of an earlier item that has the text; in a list that need not be distinct none counts
abbrev pub earlier : Bool → List Text → Text → Option ℕ
earlier distinct seen text = if distinct then position_of seen text else None

-- a text that no earlier item has goes to its position, if that has a key
abbrev pub new_text : {K : Type 0} → (ℕ → Option K) → ℕ → Text → Option ℕ → Result Text JsonError
new_text key_at at text (Some _) = Err (Doubled at)
new_text key_at at text None = and_then (key_or_too_many at (key_at at)) (λ _. Ok text)

-- the next item's text, after those seen; or what is wrong with the item, of which the first holds: it is no
-- text (`NotText`), or an earlier item has it (`Doubled`), or its position has no key (`TooMany`). The number
-- in a fault counts the items from 0
abbrev pub next_text : {K : Type 0} → (ℕ → Option K) → Bool → List Text → Data → Result Text JsonError
next_text key_at distinct seen d =
    and_then (item_text (length seen) (as_str d)) (λ text. new_text key_at (length seen) text (earlier distinct seen text))

-- the texts seen and those of the items, in order; or what is wrong with the first faulty item
abbrev pub read_items : {K : Type 0} → (ℕ → Option K) → Bool → List Text → Items → Result (List Text) JsonError
read_items key_at distinct seen no_items = Ok seen
read_items key_at distinct seen (item d ds) =
    and_then (next_text key_at distinct seen d) (λ text. read_items key_at distinct (seen ++ text ∷ []) ds)

-- the texts of an array's items
abbrev pub read_if_array : {K : Type 0} → (ℕ → Option K) → Bool → Option Items → Result (List Text) JsonError
read_if_array key_at distinct None = Err NotAnArray
read_if_array key_at distinct (Some ds) = read_items key_at distinct [] ds

-- the list that a value is read as: the texts of an array's items. Or what is wrong with the value: the fault
-- of the first faulty item, or `NotAnArray`
abbrev pub read_array : {K : Type 0} → (ℕ → Option K) → Bool → Data → Result (List Text) JsonError
read_array key_at distinct d = read_if_array key_at distinct (as_array d)

-- a result with what contracts see of its value
abbrev pub shown : {A B E : Type 0} → (A → B) → Result A E → Result B E
shown see (Ok value) = Ok (see value)
shown see (Err error) = Err error

-- the result of a call that ran out of memory
abbrev pub no_memory : {A : Type 0} → Result A JsonError
no_memory = Err (Lasso FailedAllocation)

-- the value is an array whose first item is a text, for which there is a key: to read it takes memory
abbrev pub TakesText : {K : Type 0} → (ℕ → Option K) → Data → Type 0
TakesText key_at d = (first : Data) × (ds : Items) × (text : Text) × (as_array d ≡ Some (item first ds)) × (as_str first ≡ Some text) × IsSome (key_at 0)

-- the result is what the value is read as; or it is out of memory, and the value is such that reading it
-- takes some
abbrev pub ReadsOr : Type 0 → Result (List Text) JsonError → Result (List Text) JsonError → Type 0
ReadsOr takes_memory read answer = (answer ≡ read) ⊎ ((answer ≡ no_memory) × takes_memory)

-- the result is the list that an array is read as, or what is wrong with the value; or it is out of memory,
-- unless the value is no array or its first item is faulty
abbrev pub ReadsArray : {K : Type 0} → (ℕ → Option K) → Bool → Data → Result (List Text) JsonError → Type 0
ReadsArray key_at distinct d answer = ReadsOr (TakesText key_at d) (read_array key_at distinct d) answer

-- the same of items: any of them may find no memory
abbrev pub ReadsItems : {K : Type 0} → (ℕ → Option K) → Bool → Items → Result (List Text) JsonError → Type 0
ReadsItems key_at distinct ds answer = (answer ≡ read_items key_at distinct [] ds) ⊎ (answer ≡ no_memory)

-- the fault is what is wrong with a text as the item of this number, after those seen; or it is out of memory
abbrev pub IsFaultOfText : {K : Type 0} → (ℕ → Option K) → (at : ℕ) → Bool → (seen : List Text) → Text → JsonError → Type 0
IsFaultOfText key_at at distinct seen text fault = (new_text key_at at text (earlier distinct seen text) ≡ Err fault) ⊎ (fault ≡ Lasso FailedAllocation)

-- the index is that of the list with the text last, if its texts have to be distinct
abbrev pub IndexesWith : Bool → (hash_of : Text → ℕ) → List Text → Text → Table → Type 0
IndexesWith distinct hash_of texts text index = IsTrue distinct → IsIndexOf hash_of (texts ++ text ∷ []) index

-- ---- keys

-- the whole number that a value is, if it is one
abbrev pub whole_number : Data → Option ℕ
whole_number d = option_and_then as_u64 (as_number d)

-- the key, or no key
abbrev pub key_or_fault : {K : Type 0} → Option K → Result K JsonError
key_or_fault None = Err NotAKey
key_or_fault (Some key) = Ok key

-- the key that keeps the number: that of the position before it. All that is no whole number from 1 to the
-- greatest that the key type keeps is `NotAKey`
abbrev pub key_kept : {K : Type 0} → (ℕ → Option K) → Option ℕ → Result K JsonError
key_kept key_at None = Err NotAKey
key_kept key_at (Some zero) = Err NotAKey
key_kept key_at (Some (suc n)) = key_or_fault (key_at n)
