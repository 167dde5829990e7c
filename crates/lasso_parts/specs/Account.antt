-- The account of an interner: five whole numbers of bytes, and what storing a text does to them. Sums are
-- sums of whole numbers, so that none wraps.
--
-- The first bucket has the size that the interner was made with. A doubled bucket has twice, four times,
-- eight times .. that size, each size once, up to the doubling size. A clear keeps the first bucket and the
-- doubled ones, and each doubled bucket is a spare from then on until it is filled again. The spares have
-- different sizes, each the first bucket's times a power of two, so the sum of their sizes alone says which
-- they are, to whoever knows the first bucket's size. That size is fixed when an interner is made.
use Rattle.std.specs.Prelude.{◌≡◌, ℕ, zero, suc, ◌+◌, ◌-◌, ◌*◌, ◌%◌, ◌<◌, ◌≤◌, ◌↔◌, Bool, ◌&&◌, nat_eq, nat_le, nat_lt, if◌then◌else◌, Option, Some, None}

-- five numbers of bytes
pub record Account : Type 0 where
  -- bytes left in the current bucket
  pub room : ℕ
  -- bytes of the doubled buckets that were not used since the last clear
  pub spare : ℕ
  -- the size that the next growth doubles
  pub doubling : ℕ
  -- bytes that all buckets take
  pub usage : ℕ
  -- the most bytes that they may take
  pub limit : ℕ

-- the account of an interner that was just made: room, doubling size and usage are its first bucket's bytes,
-- and nothing is spare. The limit may be below them
abbrev pub fresh : ℕ → ℕ → Account
fresh bytes limit = record { room = bytes; spare = 0; doubling = bytes; usage = bytes; limit = limit }

-- whether spares of this sum have one of that size: what is left of the sum past its multiples of twice the size
-- is the sum of the spares up to that size
abbrev pub has_spare : ℕ → ℕ → Bool
has_spare spare size = nat_le size (spare % (2 * size))

-- the smallest spare of at least n bytes, of this number of sizes, each twice the one before
abbrev pub smallest_spare : ℕ → ℕ → ℕ → ℕ → Option ℕ
smallest_spare zero size spare n = None
smallest_spare (suc sizes) size spare n =
    if has_spare spare size && nat_le n size then Some size
    else smallest_spare sizes (2 * size) spare n

-- the smallest spare of at least n bytes, or none, if the first bucket has `first` bytes. The sizes below the
-- sum of the spares are fewer than its bytes, so that number of steps is enough.
abbrev pub spare_for : ℕ → Account → ℕ → Option ℕ
spare_for first a n = smallest_spare a.spare (2 * first) a.spare n

-- the text takes a part of the current bucket
abbrev pub store_in_current : Account → ℕ → Account
store_in_current a n = record a { room = a.room - n }

-- a spare of that size becomes the current bucket
abbrev pub store_in_spare : Account → ℕ → ℕ → Account
store_in_spare a size n = record a { room = size - n; spare = a.spare - size }

-- a bucket of exactly n bytes comes, which is not the current one, and the usage grows by n; the limit
-- refuses it if usage and n are above it
abbrev pub store_in_exact : Account → ℕ → Option Account
store_in_exact a n =
    if nat_lt a.limit (a.usage + n) then None
    else Some (record a { usage = a.usage + n })

-- a remnant comes: a bucket of what the limit leaves, limit less usage, becomes the current one, and the
-- usage grows by it; refused if n is above it
abbrev pub store_in_remnant : Account → ℕ → Option Account
store_in_remnant a n =
    let left = a.limit - a.usage in
    if nat_lt left n then None
    else Some (record a { room = left - n; usage = a.usage + left })

-- the doubling size doubles, and a bucket of that size becomes the current one
abbrev pub store_in_doubled : Account → ℕ → Account
store_in_doubled a n =
    let doubled = 2 * a.doubling in
    record a { room = doubled - n; doubling = doubled; usage = a.usage + doubled }

-- a new bucket comes: one of exact size if n is above twice the doubling size; else a remnant if usage and
-- twice the doubling size are above the limit; else a doubled one
abbrev pub store_in_new : Account → ℕ → Option Account
store_in_new a n =
    if nat_lt (2 * a.doubling) n then store_in_exact a n
    else if nat_lt a.limit (a.usage + 2 * a.doubling) then store_in_remnant a n
    else Some (store_in_doubled a n)

-- the smallest spare that has n bytes takes the text, and if there is none a new bucket
abbrev pub store_in_other : Account → ℕ → Option ℕ → Option Account
store_in_other a n (Some size) = Some (store_in_spare a size n)
store_in_other a n None = store_in_new a n

-- the account after a text of n bytes is stored, or none if the limit refuses it. An empty text changes
-- nothing. A text of at most the room takes a part of the current bucket. Any other takes a spare or a new
-- bucket. `first` is the first bucket's size
abbrev pub store : ℕ → Account → ℕ → Option Account
store first a n =
    if nat_eq n 0 then Some a
    else if nat_le n a.room then Some (store_in_current a n)
    else store_in_other a n (spare_for first a n)

-- a text is refused exactly if it is longer than the room, no spare has its bytes, and the usage and its
-- bytes pass the limit: the contract of `laws::store_refuses_exactly_past_limit`
abbrev pub RefusesExactlyPastLimit : Type 0
RefusesExactlyPastLimit = (first : ℕ) (a : Account) (n : ℕ) → (store first a n ≡ None) ↔ ((a.room < n) × (spare_for first a n ≡ None) × (a.limit < a.usage + n))

-- storing never takes the usage past the limit: a usage that grows is at most the limit afterwards. The
-- contract of `laws::store_never_grows_past_limit`
abbrev pub NeverGrowsPastLimit : Type 0
NeverGrowsPastLimit = (first : ℕ) (a b : Account) (n : ℕ) → store first a n ≡ Some b → a.usage < b.usage → b.usage ≤ b.limit

-- the account after the list is emptied: the first bucket, of that size, is the current one, and the doubled
-- ones are spares; those of exact size and the remnants are given back. Doubling size and limit stay
abbrev pub clear : ℕ → Account → Account
clear first a = record a { room = first; spare = 2 * a.doubling - 2 * first; usage = 2 * a.doubling - first }

-- the account with another limit, which may be below the usage
abbrev pub with_limit : Account → ℕ → Account
with_limit a limit = record a { limit = limit }
