-- The buckets that copied texts are in, as the history of a shared interner counts them, and the bucket that is added.
use Rattle.std.specs.Prelude.{ℕ, zero, suc, ◌+◌, ◌-◌, ◌<◌, List, [], ◌∷◌, All, Option, option_map, unwrap_or}
use Rattle.lasso_parts.specs.Account.{Account, store}

-- a bucket of a history
pub record CountedBucket : Type 0 where
  -- how many bytes it has
  pub size : ℕ
  -- how many of them were taken, from its start on
  pub used : ℕ

-- the bucket with n more bytes taken
abbrev pub with_taken : ℕ → CountedBucket → CountedBucket
with_taken n b = record b { used = b.used + n }

-- the list with the item at this position changed
abbrev pub changed_at : {A : Type 0} → ℕ → (A → A) → List A → List A
changed_at position f [] = []
changed_at zero f (x ∷ xs) = f x ∷ xs
changed_at (suc position) f (x ∷ xs) = x ∷ changed_at position f xs

-- no bucket has room for n bytes
abbrev pub HasNoRoom : List CountedBucket → ℕ → Type 0
HasNoRoom buckets n = All (λ (b : CountedBucket). b.size < b.used + n) buckets

-- the account of an interner whose buckets have no room, and none of which is a spare
abbrev pub full : (doubling usage limit : ℕ) → Account
full doubling usage limit = record { room = 0; spare = 0; doubling = doubling; usage = usage; limit = limit }

-- the account once n bytes are stored there. Without spares the first bucket's size is not asked.
abbrev pub stored_in_full : (doubling usage limit n : ℕ) → Option Account
stored_in_full doubling usage limit n = store 0 (full doubling usage limit) n

-- the size of the bucket that n bytes, at least one, ask for if no bucket has room: exactly n, what the limit
-- leaves, or twice the doubling size, as `store` gives it; or none if the limit refuses it. By as much the
-- usage grows
abbrev pub bucket_size : (doubling usage limit n : ℕ) → Option ℕ
bucket_size doubling usage limit n = option_map (λ (a : Account). a.usage - usage) (stored_in_full doubling usage limit n)

-- the doubling size after that bucket is added
abbrev pub doubling_after : (doubling usage limit n : ℕ) → ℕ
doubling_after doubling usage limit n = unwrap_or (option_map (λ (a : Account). a.doubling) (stored_in_full doubling usage limit n)) doubling
