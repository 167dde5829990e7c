-- An open-addressed table of positions in a list of texts: a slot is empty or holds one position.
-- Callers cite `Holds`, `IsFiled`, `room` and `IsIndexOf`.
use Rattle.std.specs.Prelude.{◌≡◌, ◌≢◌, ℕ, ◌+◌, ◌-◌, ◌*◌, ◌/◌, ◌%◌, ◌^◌, ◌<◌, ◌≤◌, ◌⊎◌, ◌↔◌, List, Option, Some, None, [], ◌∷◌, length, slice_index_or, slice_get, bit_and, nat_eq, if◌then◌else◌, Result, MatchResult}
use Rattle.lasso_parts.specs.Texts.{Text, position_of, IsDistinct}

-- slots, each empty or with a position, and a fingerprint for each
pub record Table : Type 0 where
  pub slots : List (Option ℕ)
  pub fingerprints : List ℕ

-- the fingerprint of the slot of that number
abbrev pub fingerprint_at : Table → ℕ → ℕ
fingerprint_at table j = slice_index_or table.fingerprints j 0

-- the fingerprint of a text with that hash, which is not 0: the seven bits below its four highest, and one more
abbrev pub fingerprint_of : ℕ → ℕ
fingerprint_of hash = hash / 2 ^ 53 % 128 + 1

-- one slot got that fingerprint, and the others kept theirs
abbrev pub SetsFingerprint : Table → Table → ℕ → ℕ → Type 0
SetsFingerprint old new at fingerprint = (fingerprint_at new at ≡ fingerprint) × ((j : ℕ) → j ≢ at → fingerprint_at new j ≡ fingerprint_at old j)

-- the slot of that number, counted from 0
abbrev pub slot : List (Option ℕ) → ℕ → Option ℕ
slot xs j = slice_index_or xs j None

-- the index holds the position n
abbrev pub Holds : List (Option ℕ) → ℕ → Type 0
Holds xs n = (j : ℕ) × (slot xs j ≡ Some n)

-- the index holds no position
abbrev pub HoldsNone : List (Option ℕ) → Type 0
HoldsNone xs = (n : ℕ) → Holds xs n → ⊥

-- how many slots hold a position
abbrev pub used : List (Option ℕ) → ℕ
used [] = 0
used (None ∷ xs) = used xs
used (Some n ∷ xs) = used xs + 1

-- at most three quarters of n slots are filled, if n is a multiple of 4
abbrev pub load_limit : ℕ → ℕ
load_limit n = 3 * (n / 4)

-- n slots are no more than `capacity` positions need: none for none, and above 8 only if half would not do
abbrev pub IsFewest : ℕ → ℕ → Type 0
IsFewest capacity n = (capacity ≡ 0 → n ≡ 0) × (8 < n → load_limit (n / 2) < capacity)

-- how many more positions fit before the table has to grow
abbrev pub room : List (Option ℕ) → ℕ
room xs = load_limit (length xs) - used xs

-- the count of slots after a growth: twice the count, and 8 if there were none
abbrev pub grown_count : ℕ → ℕ
grown_count n = if nat_eq n 0 then 8 else 2 * n

-- where the search for a hash begins, among n slots: at the number that its lowest bits are
abbrev pub home : ℕ → ℕ → ℕ
home n hash = bit_and hash (n - 1)

-- no slot is empty from the first index up to the last one, which is not among them
abbrev pub IsFull : List (Option ℕ) → ℕ → ℕ → Type 0
IsFull xs from to = (j : ℕ) → from ≤ j → j < to → slot xs j ≢ None

-- a search that begins at slot a, and goes on from the last slot to the first, sees no empty slot before slot j
abbrev pub Reaches : List (Option ℕ) → ℕ → ℕ → Type 0
Reaches xs a j = ((a ≤ j) × IsFull xs a j) ⊎ ((j < a) × IsFull xs a (length xs) × IsFull xs 0 j)

-- this slot is empty, and the search for the hash ends there
pub record IsVacant (hash at : ℕ) (xs : List (Option ℕ)) : Type 0 where
  pub inside : at < length xs
  pub free : slot xs at ≡ None
  pub reached : Reaches xs (home (length xs) hash) at

-- the same of a table that has slots; of one without slots it says nothing
abbrev pub IsVacancy : ℕ → ℕ → List (Option ℕ) → Type 0
IsVacancy hash at xs = 0 < length xs → IsVacant hash at xs

-- each position that the index holds is in the list, the search for its text gets there, and finds the fingerprint of its hash
pub record IsFiled (hash_of : Text → ℕ) (texts : List Text) (table : Table) : Type 0 where
  pub in_list : (j n : ℕ) → slot table.slots j ≡ Some n → n < length texts
  pub reached : (j n : ℕ) (text : Text) → slot table.slots j ≡ Some n → slice_get texts n ≡ Some text → Reaches table.slots (home (length table.slots) (hash_of text)) j
  pub fitting : (j n : ℕ) (text : Text) → slot table.slots j ≡ Some n → slice_get texts n ≡ Some text → fingerprint_at table j ≡ fingerprint_of (hash_of text)

-- the index is filed under any list and any hasher, as one that holds nothing is
abbrev pub IsFiledAnywhere : Table → Type 0
IsFiledAnywhere table = (hash_of : Text → ℕ) (texts : List Text) → IsFiled hash_of texts table

-- an index that got the position n under a hash is filed under each list that has a text of that hash at n,
-- if it was so before
abbrev pub StaysFiled : ℕ → ℕ → Table → Table → Type 0
StaysFiled hash n old new =
    (hash_of : Text → ℕ) (texts : List Text) (text : Text) → IsFiled hash_of texts old → slice_get texts n ≡ Some text → hash ≡ hash_of text → IsFiled hash_of texts new

-- the index of a whole list: its texts are distinct, and exactly their positions are held, once each
pub record IsIndexOf (hash_of : Text → ℕ) (texts : List Text) (table : Table) : Type 0 where
  pub filed : IsFiled hash_of texts table
  pub holds : (n : ℕ) → Holds table.slots n ↔ (n < length texts)
  pub once : used table.slots ≡ length texts
  pub distinct : IsDistinct texts

-- in the index of a whole list a search finds the text's position in the list, or none
abbrev pub FindsPosition : (hash_of : Text → ℕ) → List Text → Table → Text → Option ℕ → Type 0
FindsPosition hash_of texts table text found = IsIndexOf hash_of texts table → found ≡ position_of texts text

-- the same of a search that finds something else, as a vacancy, if the list lacks the text
abbrev pub LocatesPosition : {V : Type 0} → (hash_of : Text → ℕ) → List Text → Table → Text → Result ℕ V → Type 0
LocatesPosition hash_of texts table text found =
    IsIndexOf hash_of texts table → MatchResult found (λ n. position_of texts text ≡ Some n) (λ _. position_of texts text ≡ None)
