-- Where the next text goes, and what the account says of it.
use Rattle.std.specs.Prelude.{◌≡◌, ℕ, ◌+◌, ◌-◌, ◌*◌, ◌<◌, ◌≤◌, ◌⊎◌, Some, None, IsSome}
use Rattle.lasso_parts.specs.Account.{Account, spare_for, store, store_in_current, store_in_spare}
use Rattle.lasso_parts.specs.Arena.{Regions, region_at, first_of, account_of}
use Rattle.lasso_parts.specs.Doubled.{CanTake}
use Rattle.lasso_parts.specs.Waste.{IsSpare, HasNoSpare}
use Rattle.lasso_parts.specs.declared.util.LassoErrorKind.{LassoErrorKind}
use Rattle.lasso_parts.specs.declared.util.LassoErrorKind.TheVariants.{MemoryLimitReached, FailedAllocation}
use Rattle.lasso_parts.specs.declared.arena.Placement.{Placement}
use Rattle.lasso_parts.specs.declared.arena.Placement.TheVariants.{Current, Spare, Exact, Remnant, Doubled, Refused}

-- the account when a bucket of that size becomes the current one, and n bytes of it are taken
abbrev pub with_bucket : Account → ℕ → ℕ → Account
with_bucket a size n = record a { room = size - n; usage = a.usage + size }

-- the region at that position is a spare that can take n bytes
pub record IsSpareAt (a : Regions) (n at : ℕ) : Type 0 where
  pub after : 0 < at
  pub before : at < a.kept
  pub takes : CanTake n (region_at a.all at)
  pub spare : IsSpare (account_of a) (region_at a.all at).capacity

-- the same, and it is the spare that the account fills
abbrev pub IsSpareFor : Regions → (n at : ℕ) → Type 0
IsSpareFor a n at = IsSpareAt a n at × (spare_for (first_of a) (account_of a) n ≡ Some (region_at a.all at).capacity)

-- neither the current region nor a spare has n bytes
pub record NeedsNew (a : Regions) (n : ℕ) : Type 0 where
  pub room : (account_of a).room < n
  pub spare : HasNoSpare (account_of a) n

-- n bytes fit into the current region or into a spare, or the usage and n are at most the limit
abbrev pub HasPlaceFor : Regions → ℕ → Type 0
HasPlaceFor a n = (n ≤ (account_of a).room) ⊎ (IsSome (spare_for (first_of a) (account_of a) n) ⊎ ((account_of a).usage + n ≤ a.limit))

-- storing n bytes may end with this error: the limit refuses them; or memory runs out, and neither the current
-- region nor a spare has room for them
abbrev pub MayRefuse : Regions → ℕ → LassoErrorKind → Type 0
MayRefuse a n error =
    (error ≡ MemoryLimitReached) ⊎ (error ≡ FailedAllocation) × ((account_of a).room < n) × (spare_for (first_of a) (account_of a) n ≡ None)

-- storing n bytes gives this account
abbrev pub StoresTo : Regions → ℕ → Account → Type 0
StoresTo a n account = store (first_of a) (account_of a) n ≡ Some account

-- the placement of n bytes, at least one, and the account that is left
abbrev pub IsPlacementFor : Regions → ℕ → Placement → Type 0
IsPlacementFor a n Current = (n ≤ (account_of a).room) × StoresTo a n (store_in_current (account_of a) n)
IsPlacementFor a n (Spare at) = ((account_of a).room < n) × IsSpareAt a n at × StoresTo a n (store_in_spare (account_of a) (region_at a.all at).capacity n)
IsPlacementFor a n Exact = NeedsNew a n × (2 * a.doubling < n) × ((account_of a).usage + n ≤ a.limit) × StoresTo a n (record (account_of a) { usage = (account_of a).usage + n })
IsPlacementFor a n (Remnant size) = NeedsNew a n × (n ≤ size) × (size < 2 * a.doubling) × ((account_of a).usage + size ≤ a.limit) × StoresTo a n (with_bucket (account_of a) size n)
IsPlacementFor a n (Doubled size) = NeedsNew a n × (n ≤ size) × (size ≡ 2 * a.doubling) × ((account_of a).usage + size ≤ a.limit) × StoresTo a n (with_bucket (record (account_of a) { doubling = size }) size n)
IsPlacementFor a n Refused = ((account_of a).room < n) × (store (first_of a) (account_of a) n ≡ None)
