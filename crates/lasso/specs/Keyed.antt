-- The keys of SipHash-1-3 that a `KeyedState` has, and the hasher that it makes.
use Rattle.std.specs.Prelude.{◌≡◌, ℕ, ◌%◌, ◌/◌, ◌^◌, List}
use Rattle.core.specs.Hash.DefaultHasher.{with_keys}
use Rattle.core.specs.Int.{w128, from_le_bytes}
use Rattle.core.specs.declared.hash.sip.DefaultHasher.{DefaultHasher}
use Rattle.lasso.specs.declared.keyed.KeyedState.{KeyedState}

-- the hasher that it makes: SipHash-1-3 with its two keys, before any byte
abbrev pub keyed_hasher_of : KeyedState → DefaultHasher
keyed_hasher_of state = with_keys state.key0 state.key1

-- its keys are those in the 16 bytes: each a number of 64 bits with its lowest byte first
abbrev pub HasKeys : KeyedState → List ℕ → Type 0
HasKeys state bytes = (state.key0 ≡ from_le_bytes w128 bytes % 2 ^ 64) × (state.key1 ≡ from_le_bytes w128 bytes / 2 ^ 64)
