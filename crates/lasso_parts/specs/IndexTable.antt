-- What the table of an index keeps, and what the functions below its public calls say.
use Rattle.std.specs.Prelude.{◌≡◌, ◌≢◌, ℕ, ◌+◌, ◌^◌, ◌<◌, ◌≤◌, ◌⊎◌, ◌↔◌, List, [], Option, Some, length, slice_get, slice_index_or}
use Rattle.lasso_parts.specs.Texts.{Text}
use Rattle.lasso_parts.specs.Index.{Table, slot, used, load_limit, fingerprint_at, Holds, IsFiled}

-- no slot, or a power of two of them
abbrev pub IsSlotCount : ℕ → Type 0
IsSlotCount n = (n ≡ 0) ⊎ ((k : ℕ) × (3 ≤ k) × (n ≡ 2 ^ k))

-- the invariant of the table and of its count of keys
pub record IsTable (xs : List (Option ℕ)) (count : ℕ) : Type 0 where
  pub slots : IsSlotCount (length xs)
  pub counted : count ≡ used xs
  pub load : used xs ≤ load_limit (length xs)

-- each position that the slots show is in the list
abbrev pub AllInList : List Text → List (Option ℕ) → Type 0
AllInList texts xs = (j n : ℕ) → slot xs j ≡ Some n → n < length texts

-- these are the texts of `size` slots from the first one on, as far as those are not empty
abbrev pub AreTextsFrom : List Text → List (Option ℕ) → (first size : ℕ) → List Text → Type 0
AreTextsFrom texts xs first size found = (i n : ℕ) → i < size → slot xs (first + i) ≡ Some n → slice_get texts n ≡ Some (slice_index_or found i [])

-- these are the hashes of the texts of `size` slots from the first one on, as far as those are not empty
abbrev pub AreHashesFrom : (Text → ℕ) → List Text → List (Option ℕ) → (first size : ℕ) → List ℕ → Type 0
AreHashesFrom hash_of texts xs first size hashes = (i n : ℕ) (text : Text) → i < size → slot xs (first + i) ≡ Some n → slice_get texts n ≡ Some text → slice_index_or hashes i 0 ≡ hash_of text

-- this is the hash of the text of slot j, if that is not empty
abbrev pub IsHashAt : (Text → ℕ) → List Text → List (Option ℕ) → (j hash : ℕ) → Type 0
IsHashAt hash_of texts xs j hash = (n : ℕ) (text : Text) → slot xs j ≡ Some n → slice_get texts n ≡ Some text → hash ≡ hash_of text

-- the hashes of at most 32 slots, as above
pub record KnowsHashes (hash_of : Text → ℕ) (texts : List Text) (xs : List (Option ℕ)) (first size : ℕ) (each : List ℕ) : Type 0 where
  pub all : length each ≡ 32
  pub few : size ≤ 32
  pub hashed : AreHashesFrom hash_of texts xs first size each

-- no slot of the range has the text
abbrev pub Misses : List Text → Text → List (Option ℕ) → ℕ → ℕ → Type 0
Misses texts text xs from to = (j n : ℕ) → from ≤ j → j < to → slot xs j ≡ Some n → slice_get texts n ≢ Some text

-- a slot that has the text has the fingerprint
abbrev pub HaveFingerprint : List Text → Text → ℕ → Table → Type 0
HaveFingerprint texts text fingerprint table = (j n : ℕ) → slot table.slots j ≡ Some n → slice_get texts n ≡ Some text → fingerprint_at table j ≡ fingerprint

-- a position went into a slot that was empty
pub record IsEntered (n : ℕ) (old new : Table) : Type 0 where
  pub holds : (m : ℕ) → Holds new.slots m ↔ (Holds old.slots m ⊎ (m ≡ n))
  pub more : used new.slots ≡ used old.slots + 1
  pub len : length new.slots ≡ length old.slots

-- the new table is filed under the list if the old one was
abbrev pub KeepsFiled : (hash_of : Text → ℕ) → List Text → (old new : Table) → Type 0
KeepsFiled hash_of texts old new = IsFiled hash_of texts old → IsFiled hash_of texts new

-- a new table of the list holds these positions, in `count` slots
pub record IsRefilled (hash_of : Text → ℕ) (texts : List Text) (table : Table) (IsHeld : ℕ → Type 0) (count : ℕ) : Type 0 where
  pub filed : IsFiled hash_of texts table
  pub holds : (n : ℕ) → Holds table.slots n ↔ IsHeld n
  pub counted : used table.slots ≡ count

-- it holds the positions that the old slots held
abbrev pub HoldsAgain : (hash_of : Text → ℕ) → List Text → (old : List (Option ℕ)) → Table → Type 0
HoldsAgain hash_of texts old table = IsRefilled hash_of texts table (Holds old) (used old)

-- it holds the first positions of the list, this number of them
abbrev pub HoldsFirst : (hash_of : Text → ℕ) → List Text → (len : ℕ) → Table → Type 0
HoldsFirst hash_of texts len table = IsRefilled hash_of texts table (λ n. n < len) len
