-- Lists of texts as JSON objects, from each text to its position plus one: what is written, and how a value is read.
use Rattle.std.specs.Prelude.{◌≡◌, ◌⊎◌, ℕ, zero, suc, ◌+◌, ◌==◌, List, [], ◌∷◌, ◌++◌, length, replicate, set, Bool, true, false, nat_lt, if◌then◌else◌, Option, Some, None, Result, Ok, Err}
use Rattle.std.specs.List.{list_any}
use Rattle.std.specs.List.Sorted.{IsStrictlySortedBy}
use Rattle.std.specs.Ordering.{nat_cmp}
use Rattle.std.specs.Cmp.Lexicographic.{slice_cmp}
use Rattle.serde_json.specs.Data.{Data, number, unsigned, object, Members, no_members, member, put}
use Rattle.serde_json.specs.Events.{members_len}
use Rattle.serde_json.specs.Find.{as_object}
use Rattle.lasso_parts.specs.Texts.{Text}
use Rattle.lasso_parts.specs.Json.{and_then, key_or_too_many, no_memory, whole_number, ReadsOr}
use Rattle.lasso_parts.specs.declared.json.error.JsonError.{JsonError}
use Rattle.lasso_parts.specs.declared.json.error.JsonError.TheVariants.{NotAnObject, NotAPosition, Taken}

-- ---- what is written

-- what stands for a position: the number after it
abbrev pub position_number : ℕ → Data
position_number p = number (unsigned (p + 1))

-- the members, with the texts put among them, which have the positions from n on
abbrev pub put_texts : ℕ → List Text → Members → Members
put_texts n [] ms = ms
put_texts n (t ∷ ts) ms = put_texts (n + 1) ts (put t (position_number n) ms)

-- the object from each text to its position plus one
abbrev pub json_object : List Text → Data
json_object texts = object (put_texts 0 texts no_members)

-- ---- how a value is read

-- the position that a member's number stands for, among n
abbrev pub position_among : ℕ → ℕ → Option ℕ → Result ℕ JsonError
position_among n at None = Err (NotAPosition at)
position_among n at (Some zero) = Err (NotAPosition at)
position_among n at (Some (suc p)) = if nat_lt p n then Ok p else Err (NotAPosition at)

-- whether an earlier member has the position
abbrev pub is_taken : List ℕ → ℕ → Bool
is_taken seen p = list_any (λ q. p == q) seen

-- the position, if it has a key
abbrev pub keyed_position : {K : Type 0} → (ℕ → Option K) → ℕ → ℕ → Result ℕ JsonError
keyed_position key_at at p = and_then (key_or_too_many at (key_at p)) (λ _. Ok p)

-- the position, among n, that a member's number stands for and that has a key
abbrev pub member_position : {K : Type 0} → (ℕ → Option K) → ℕ → ℕ → Option ℕ → Result ℕ JsonError
member_position key_at n at kept = and_then (position_among n at kept) (keyed_position key_at at)

-- a position that no earlier member has is the member's
abbrev pub new_position : ℕ → ℕ → Bool → Result ℕ JsonError
new_position at p true = Err (Taken at)
new_position at p false = Ok p

-- the next of n members' position, after those of the members before it; or what is wrong with the member, of
-- which the first holds: it is no whole number from 1 to n (`NotAPosition`), or the position before that
-- number has no key (`TooMany`), or an earlier member has the position (`Taken`). The number in a fault
-- counts the members from 0
abbrev pub next_position : {K : Type 0} → (ℕ → Option K) → ℕ → List ℕ → Data → Result ℕ JsonError
next_position key_at n seen d =
    and_then (member_position key_at n (length seen) (whole_number d)) (λ p. new_position (length seen) p (is_taken seen p))

-- the texts, with those of the members at their positions; or what is wrong with the first faulty member
abbrev pub read_members : {K : Type 0} → (ℕ → Option K) → ℕ → List ℕ → List Text → Members → Result (List Text) JsonError
read_members key_at n seen texts no_members = Ok texts
read_members key_at n seen texts (member t d ms) =
    and_then (next_position key_at n seen d) (λ p. read_members key_at n (seen ++ p ∷ []) (set texts p t) ms)

-- the texts of an object's members, one for each, set at its position
abbrev pub read_if_object : {K : Type 0} → (ℕ → Option K) → Option Members → Result (List Text) JsonError
read_if_object key_at None = Err NotAnObject
read_if_object key_at (Some ms) = read_members key_at (members_len ms) [] (replicate (members_len ms) []) ms

-- the list that a value is read as: each member's text at the member's position. Or what is wrong with the
-- value: the fault of the first faulty member, or `NotAnObject`. Members are taken in the value's order
abbrev pub read_object : {K : Type 0} → (ℕ → Option K) → Data → Result (List Text) JsonError
read_object key_at d = read_if_object key_at (as_object d)

-- the value is an object whose first member has a position: to read it takes memory
abbrev pub TakesPosition : {K : Type 0} → (ℕ → Option K) → Data → Type 0
TakesPosition key_at d = (t : Text) × (first : Data) × (ms : Members) × (p : ℕ) × (as_object d ≡ Some (member t first ms)) × (next_position key_at (members_len ms + 1) [] first ≡ Ok p)

-- the result is the list that an object is read as, or what is wrong with the value; or it is out of memory,
-- unless the value is no object or its first member is faulty
abbrev pub ReadsObject : {K : Type 0} → (ℕ → Option K) → Data → Result (List Text) JsonError → Type 0
ReadsObject key_at d answer = ReadsOr (TakesPosition key_at d) (read_object key_at d) answer

-- the same of members, which are n: any of them may find no memory
abbrev pub ReadsMembers : {K : Type 0} → (ℕ → Option K) → (n : ℕ) → Members → Result (List Text) JsonError → Type 0
ReadsMembers key_at n ms answer = (answer ≡ read_members key_at n [] (replicate n []) ms) ⊎ (answer ≡ no_memory)

-- ---- the order of members

-- the members' texts
abbrev pub member_texts : Members → List Text
member_texts no_members = []
member_texts (member t d ms) = t ∷ member_texts ms

-- the members come in the byte order of their texts, no text twice
abbrev pub AreInOrder : Members → Type 0
AreInOrder ms = IsStrictlySortedBy (slice_cmp nat_cmp) (member_texts ms)

-- so do those of the value, if it is an object. Any `Value` is so
abbrev pub IsInOrder : Data → Type 0
IsInOrder d = (ms : Members) → as_object d ≡ Some ms → AreInOrder ms
