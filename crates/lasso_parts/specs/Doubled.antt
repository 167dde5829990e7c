-- The order of an arena's regions: the first one, then those that were kept by the last clear, each twice as large as the
-- one before, and then those that came since.
--
-- A clear keeps the first region and each one that is twice as large as the last one kept before it. A region of exact
-- size has more than twice the doubling size, and a remnant fewer, so these are the doubled ones.
use Rattle.std.specs.Prelude.{◌≡◌, ℕ, ◌*◌, ◌<◌, ◌≤◌, ◌⊎◌, nat_eq, if◌then◌else◌, List, [], ◌∷◌, length, drop}
use Rattle.lasso_parts.specs.Bucket.{Extent}
use Rattle.lasso_parts.specs.Arena.{Regions, region_at, first_of, copied_of, most_of, account_of, spares_at_clear, spare_part, usage_of}
use Rattle.lasso_parts.specs.Waste.{IsThriftySince}

-- the first has this size, and each next one twice the size of the one before
abbrev pub AreDoubled : ℕ → List Extent → Type 0
AreDoubled size [] = Unit {0}
AreDoubled size (r ∷ rs) = (r.capacity ≡ size) × AreDoubled (2 * size) rs

-- the regions of this size, twice that, and so on, each after the one before
abbrev pub doubled_from : ℕ → List Extent → List Extent
doubled_from size [] = []
doubled_from size (r ∷ rs) = if nat_eq r.capacity size then r ∷ doubled_from (2 * size) rs else doubled_from size rs

-- the size that would be next after these
abbrev pub next_of : ℕ → List Extent → ℕ
next_of size [] = size
next_of size (r ∷ rs) = if nat_eq r.capacity size then next_of (2 * size) rs else next_of size rs

-- the regions that a clear keeps
abbrev pub kept_of : List Extent → List Extent
kept_of [] = []
kept_of (r ∷ rs) = r ∷ doubled_from (2 * r.capacity) rs

-- the order of an arena's regions
pub record IsOrdered (a : Regions) : Type 0 where
  pub some : 0 < first_of a
  pub kept : (0 < a.kept) × (a.kept ≤ length a.all)
  pub doubled : AreDoubled (2 * first_of a) (spares_at_clear a)
  pub next : next_of (2 * first_of a) (drop 1 a.all) ≡ 2 * a.doubling
  pub current : a.current < length a.all
  -- the current region is the first one, or came since the clear, or is no spare
  pub filled : (a.current ≡ 0) ⊎ ((a.kept ≤ a.current) ⊎ (spare_part (region_at a.all a.current) ≡ 0))

-- what holds of every arena: the order of its regions, and the bound on waste
pub record IsSound (a : Regions) : Type 0 where
  pub order : IsOrdered a
  pub thrift : IsThriftySince (first_of a) (copied_of a) (most_of a) (account_of a)

-- the same, and the usage is counted: it is the sum of the regions' capacities
abbrev pub IsCountedSound : (usage : ℕ) → Regions → Type 0
IsCountedSound usage a = (usage ≡ usage_of a.all) × IsSound a

-- the region can take n bytes as a spare
abbrev pub CanTake : ℕ → Extent → Type 0
CanTake n r = (length r.bytes ≡ 0) × (n ≤ r.capacity)

-- it can't
abbrev pub CannotTake : ℕ → Extent → Type 0
CannotTake n r = (0 < length r.bytes) ⊎ (r.capacity < n)

-- the first of the regions that can take n bytes
pub record IsFirstToTake (n : ℕ) (regions : List Extent) (i : ℕ) : Type 0 where
  pub inside : i < length regions
  pub takes : CanTake n (region_at regions i)
  pub before : (k : ℕ) → k < i → CannotTake n (region_at regions k)

-- none of them can
abbrev pub NoneTakes : ℕ → List Extent → Type 0
NoneTakes n regions = (k : ℕ) → k < length regions → CannotTake n (region_at regions k)
