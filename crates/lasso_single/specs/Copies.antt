-- What clones of an interner hold, and where copying a list of texts may stop.
use Rattle.std.specs.Prelude.{IsSome, ◌≡◌, ◌⊎◌, ◌+◌, ◌-◌, ◌^◌, ℕ, true, List, [], ◌∷◌, ◌++◌, length, take, slice_get, sum_by, max, nat_eq, if◌then◌else◌, Option, Some, None, option_and_then, Result, MatchResult}
use Rattle.lasso_parts.specs.Account.{Account, fresh, store, clear}
use Rattle.lasso_parts.specs.Texts.{Text}
use Rattle.lasso_parts.specs.declared.util.LassoError.{LassoError}
use Rattle.lasso_parts.specs.declared.util.LassoErrorKind.TheVariants.{MemoryLimitReached, FailedAllocation}
use Rattle.lasso_single.specs.Interner.{InternerView, KeepsOrigin, most_copied}

-- how many bytes the texts have in all
abbrev pub bytes_of : List Text → ℕ
bytes_of texts = sum_by (λ (t : Text). length t) texts

-- the account after the texts are stored in order, or none if the limit refuses one of them; `first` is the
-- first bucket's size
abbrev pub store_all : ℕ → Account → List Text → Option Account
store_all first a [] = Some a
store_all first a (t ∷ ts) = option_and_then (λ b. store_all first b ts) (store first a (length t))

-- the size of one bucket for this number of bytes: 4096 for none
abbrev pub bucket_for : ℕ → ℕ
bucket_for bytes = if nat_eq bytes 0 then 4096 else bytes

-- the size of a clone's one bucket
abbrev pub clone_size : List Text → ℕ
clone_size texts = bucket_for (bytes_of texts)

-- the account of a clone: all texts in one bucket of their bytes (4096 if they have none), under the greater
-- of the limit and that size
abbrev pub clone_of : List Text → ℕ → Option Account
clone_of texts limit = store_all (clone_size texts) (fresh (clone_size texts) (max limit (clone_size texts))) texts

-- copying one text puts it last and stores its bytes; or the limit refuses it, or memory runs out though the
-- limit has room for it, and then nothing changes
abbrev pub CopiesOne : InternerView → Text → Result (Unit {0}) LassoError → InternerView → Type 0
CopiesOne old text reply new =
    MatchResult reply
    (λ _. (new.texts ≡ old.texts ++ text ∷ []) × (store old.first old.account (length text) ≡ Some new.account) × (new.copied ≡ old.copied + length text))
    (λ error. (new.texts ≡ old.texts) × (new.account ≡ old.account) × (new.copied ≡ old.copied) × (((error ≡ FailedAllocation) × IsSome (store old.first old.account (length text))) ⊎ ((error ≡ MemoryLimitReached) × (store old.first old.account (length text) ≡ None))))
    × KeepsOrigin old new

-- copying the texts from that account on stopped with j of them copied: the limit refused the next one; or
-- memory ran out for it, though the limit had room for it, or before the first
abbrev pub StopsAt : ℕ → Account → List Text → ℕ → LassoError → Account → Type 0
StopsAt first account texts j error stopped =
    (store_all first account (take j texts) ≡ Some stopped) × (((error ≡ FailedAllocation) × ((j ≡ 0) ⊎ ((text : Text) × (slice_get texts j ≡ Some text) × IsSome (store first stopped (length text)))))
    ⊎ ((error ≡ MemoryLimitReached) × ((text : Text) × (slice_get texts j ≡ Some text) × (store first stopped (length text) ≡ None))))

-- copying the texts into an interner stopped at one of them, as `StopsAt` says: the bytes of those before it
-- are counted as copied
abbrev pub StopsCopying : InternerView → List Text → LassoError → InternerView → Type 0
StopsCopying old texts error new =
    (j : ℕ) × StopsAt old.first old.account texts j error new.account
    × (new.copied ≡ old.copied + bytes_of (take j texts))

-- copying the texts over those of an interner stopped at one of them: no text is left, and the account is the
-- one that was reached, cleared. What was copied counts as after a clear, and so among the bytes in between two
-- clears
abbrev pub StopsCloning : InternerView → List Text → LassoError → InternerView → Type 0
StopsCloning old texts error new =
    (j : ℕ) × (stopped : Account) × StopsAt old.first (clear old.first old.account) texts j error stopped
    × (new.account ≡ clear old.first stopped) × (new.most ≡ max (most_copied old) (bytes_of (take j texts)))

-- copying the texts over those of an interner stopped at one of them, and cleared again what was copied: P holds
-- of how many texts that were, and of the account that they left
abbrev pub ClearsAgain : (old new : InternerView) → List Text → (ℕ → Account → Type 0) → Type 0
ClearsAgain old new texts P =
    (j : ℕ) × (stopped : Account) × (store_all old.first (clear old.first old.account) (take j texts) ≡ Some stopped) × P j stopped
    × (new.account ≡ clear old.first stopped) × (new.most ≡ max (most_copied old) (bytes_of (take j texts)))

-- copying the texts into an interner, which is cleared before, leaves just them, under its own account; or it
-- stops at one of them, as `StopsCloning` says, and then leaves no text
abbrev pub ClonesInto : InternerView → List Text → Result (Unit {0}) LassoError → InternerView → Type 0
ClonesInto old texts reply new =
    MatchResult reply
    (λ _. (new.texts ≡ texts) × (store_all old.first (clear old.first old.account) texts ≡ Some new.account) × (new.copied ≡ bytes_of texts) × (new.most ≡ most_copied old))
    (λ error. (new.texts ≡ []) × (new.copied ≡ 0) × StopsCloning old texts error new)
    × (new.first ≡ old.first) × (new.is_cleared ≡ true)

-- the account of a list that was read: all texts in one bucket of their bytes (4096 if they have none), under
-- the greatest limit
abbrev pub read_of : List Text → Option Account
read_of texts = store_all (clone_size texts) (fresh (clone_size texts) (2 ^ 64 - 1)) texts
