-- What an arena shows: the regions that it copies texts into, each a bucket of the account, and the texts
-- in them.
use Rattle.std.specs.Prelude.{◌≡◌, ℕ, ◌+◌, ◌-◌, ◌<◌, ◌≤◌, max, nat_eq, if◌then◌else◌, List, [], ◌∷◌, ◌++◌, length, get_or, slice_set, sum_by, slice_range, IsUtf8}
use denote.RawPtr.{Ptr, null_ptr, ◌+ₚ◌}
use Rattle.lasso_parts.specs.Account.{Account}
use Rattle.lasso_parts.specs.Bucket.{Extent}
use Rattle.lasso_parts.specs.declared.arena.Span.{Span}

-- an arena: its regions, those that the last clear kept first. All else is derived
pub record Regions : Type 0 where
  -- the regions in the order in which they were made
  pub all : List Extent
  -- which of them is filled next
  pub current : ℕ
  -- how many there were after the last clear, or at first: the first region and the doubled ones
  pub kept : ℕ
  -- the size that the next growth doubles, in bytes
  pub doubling : ℕ
  -- the most bytes that all regions may take
  pub limit : ℕ
  -- the most bytes that were copied in between two clears, or before the first
  pub most : ℕ

-- what is at a position without a region
abbrev pub no_region : Extent
no_region = record { at = null_ptr; bytes = []; capacity = 0 }

-- the region at this position
abbrev pub region_at : List Extent → ℕ → Extent
region_at regions k = get_or regions k no_region

-- the bytes that regions take
abbrev pub usage_of : List Extent → ℕ
usage_of regions = sum_by (λ (r : Extent). r.capacity) regions

-- the bytes that the first region takes
abbrev pub first_of : Regions → ℕ
first_of arena = (region_at arena.all 0).capacity

-- how many bytes were copied into regions since they were cleared
abbrev pub copied_in : List Extent → ℕ
copied_in regions = sum_by (λ (r : Extent). length r.bytes) regions

-- how many bytes were copied into the arena since it was cleared
abbrev pub copied_of : Regions → ℕ
copied_of arena = copied_in arena.all

-- the most bytes that were copied in between two clears; the time before the first and that after the last count too
abbrev pub most_of : Regions → ℕ
most_of arena = max arena.most (copied_of arena)

-- the bytes of a region that is a spare, one that has none in it
abbrev pub spare_part : Extent → ℕ
spare_part r = if nat_eq (length r.bytes) 0 then r.capacity else 0

-- the bytes of the spares among some regions
abbrev pub spare_in : List Extent → ℕ
spare_in regions = sum_by spare_part regions

-- the regions that the last clear made spares
abbrev pub spares_at_clear : Regions → List Extent
spares_at_clear arena = slice_range arena.all 1 arena.kept

-- the bytes of those that are spares still
abbrev pub spare_of : Regions → ℕ
spare_of arena = spare_in (spares_at_clear arena)

-- the account of a current region, the spares' bytes, a doubling size, a usage and a limit
abbrev pub account_at : Extent → ℕ → ℕ → ℕ → ℕ → Account
account_at r spare doubling usage limit =
    record { room = r.capacity - length r.bytes; spare = spare; doubling = doubling; usage = usage; limit = limit }

-- the account of the arena: the usage is the sum of the regions' capacities, the room is what fits into the
-- current region, and the spare is the sum of the kept ones, after the first, that hold no bytes
abbrev pub account_of : Regions → Account
account_of arena = account_at (region_at arena.all arena.current) (spare_of arena) arena.doubling (usage_of arena.all) arena.limit

-- the region with no bytes
abbrev pub emptied : Extent → Extent
emptied r = record r { bytes = [] }

-- the region with more bytes
abbrev pub with_bytes : Extent → List ℕ → Extent
with_bytes r more = record r { bytes = r.bytes ++ more }

-- the regions with more bytes in the one at this position
abbrev pub with_bytes_at : List Extent → ℕ → List ℕ → List Extent
with_bytes_at regions at more = slice_set regions at (with_bytes (region_at regions at) more)

-- an arena gets one more region, after the others: of this capacity, with these bytes, at some address
abbrev pub AddsRegion : (before after : Regions) → List ℕ → (capacity : ℕ) → Type 0
AddsRegion before after bytes capacity =
    (at : Ptr) × (after ≡ record before { all = before.all ++ record { at = at; bytes = bytes; capacity = capacity } ∷ [] })

-- the bytes that a span names: a region, a start and a length
abbrev pub text_at : List Extent → Span → List ℕ
text_at regions span = slice_range (region_at regions span.region).bytes span.start (span.start + span.len)

-- where the first of these bytes is
abbrev pub address_of : List Extent → Span → Ptr
address_of regions span = (region_at regions span.region).at +ₚ span.start

-- the regions have the text of this span: these bytes were pushed, and are a text
pub record IsStored (regions : List Extent) (span : Span) : Type 0 where
  pub region : span.region < length regions
  pub bytes : span.start + span.len ≤ length (region_at regions span.region).bytes
  pub text : IsUtf8 (text_at regions span)

-- the later regions have this span's text, the same and at the same address
pub record Keeps (earlier later : List Extent) (span : Span) : Type 0 where
  pub stored : IsStored later span
  pub text : text_at later span ≡ text_at earlier span
  pub address : address_of later span ≡ address_of earlier span

-- the later regions have each text that the earlier ones have, at the same span and the same address
abbrev pub KeepsTexts : List Extent → List Extent → Type 0
KeepsTexts earlier later = (span : Span) → IsStored earlier span → Keeps earlier later span
