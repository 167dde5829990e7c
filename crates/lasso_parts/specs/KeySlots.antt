-- The slots of a table, kept as a list of fingerprints, one for each slot, and a list of keys.
use Rattle.std.specs.Prelude.{◌≡◌, ℕ, ◌≤◌, ◌⊎◌, List, [], Option, Some, None, length, map, replicate, slice_get, slice_index_or, option_map, nat_eq, if◌then◌else◌}
use Rattle.std.specs.List.{range_with_len}
use Rattle.std.specs.Vec.{vec_capacity}
use Rattle.std.specs.declared.vec.Vec.{Vec}
use Rattle.lasso_parts.specs.Index.{Table}

-- the keys, of which there are none before there is memory for them
abbrev pub keys_of : {K A : Type 0} → Option (Vec K A) → List K
keys_of None = []
keys_of (Some keys) = keys.items

-- for how many keys there is memory
abbrev pub key_room : {K A : Type 0} → Option (Vec K A) → ℕ
key_room None = 0
key_room (Some keys) = vec_capacity keys

-- slot j, by the position that its key stands for: it is empty if its fingerprint is 0
abbrev pub slot_of : {K : Type 0} → (K → ℕ) → List ℕ → List K → ℕ → Option ℕ
slot_of number fingerprints keys j = if nat_eq (slice_index_or fingerprints j 0) 0 then None else option_map number (slice_get keys j)

-- a slot for each fingerprint
abbrev pub slots_of : {K : Type 0} → (K → ℕ) → List ℕ → List K → List (Option ℕ)
slots_of number fingerprints keys = map (slot_of number fingerprints keys) (range_with_len 0 (length fingerprints))

-- the slots with their fingerprints
abbrev pub table_of : {K : Type 0} → (K → ℕ) → List ℕ → List K → Table
table_of number fingerprints keys = record { slots = slots_of number fingerprints keys; fingerprints = fingerprints }

-- there is memory for a key a slot. Either no key was made and each fingerprint is 0, or all keys were made
pub record IsLaidOut {K : Type 0} (fingerprints : List ℕ) (keys : List K) (room : ℕ) : Type 0 where
  pub enough : length fingerprints ≤ room
  pub made : ((keys ≡ []) × (fingerprints ≡ replicate (length fingerprints) 0)) ⊎ (length keys ≡ length fingerprints)
