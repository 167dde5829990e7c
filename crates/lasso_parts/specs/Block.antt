-- What the places of a block hold, and what the right to free a block owns.
use Rattle.std.specs.Prelude.{◌≡◌, ℕ, ◌<◌, ◌≤◌, false, List, take, slice_index_or}
use base.Fml.{Fml}
use mir.Syntax.{Ty, w8, ty_int, ty_array}
use denote.RawPtr.{Ptr, block_ptr, block_of, count_of}
use Rattle.core.specs.Mem.Slots.Ownership as ownership
use Rattle.core.specs.Mem.Slots.{slots_items, slots_filled, slots_len}
use Rattle.core.specs.declared.slots.Slots.{Slots}

-- the pointer leads to memory: it is not null
abbrev pub LeadsToBlock : Ptr → Type 0
LeadsToBlock p = p ≡ block_ptr (block_of p) (count_of p)

-- the type that a block of n bytes is allocated for
abbrev pub bytes_type : ℕ → Ty
bytes_type n = ty_array (ty_int w8) n

-- the allocator's token for a block of n bytes
abbrev pub deed_owns : (Ty → Ptr → Fml) → Ptr → ℕ → Fml
deed_owns token p n = token (bytes_type n) p

-- the bytes in the first `used` places
abbrev pub bytes_in : ℕ → Slots ℕ → List ℕ
bytes_in used row = take used (slots_items row)

-- each place from `from` up to `to` holds its byte
pub record AreFilled (row : Slots ℕ) (from to : ℕ) : Type 0 where
  pub within : to ≤ slots_len row
  pub full : ownership.Filled (slots_filled row) from to

-- before that place, the same places hold bytes
abbrev pub SameBefore : Slots ℕ → Slots ℕ → ℕ → Type 0
SameBefore old new start = (k : ℕ) → k < start → slice_index_or (slots_filled new) k false ≡ slice_index_or (slots_filled old) k false
