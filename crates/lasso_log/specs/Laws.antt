-- What holds of every legal history.
use Rattle.std.specs.Prelude.{◌≡◌, ◌≢◌, ◌↔◌, ℕ, ◌+◌, ◌<◌, ◌≤◌, ◌++◌, length, All, sum_by, Option, None}
use mathlib.Core.List.{IsPrefix}
use Rattle.lasso_parts.specs.Texts.{IsDistinct, Fits}
use Rattle.lasso_log.specs.Buckets.{CountedBucket, bucket_size}
use Rattle.lasso_log.specs.History.{Event, History, Totals, IsOpening, counted, totals, MayFollow, IsLegal}

-- the totals after a legal history: no text occurs twice, each position has a key, no bucket holds more than
-- it has, and the usage is the sum of the buckets' sizes
pub record IsSoundTotals {K : Type 0} (key_at : ℕ → Option K) (s : Totals) : Type 0 where
  pub distinct : IsDistinct s.texts
  pub fits : Fits key_at (length s.texts)
  -- no bucket holds more bytes than it has
  pub within : All (λ (b : CountedBucket). b.used ≤ b.size) s.buckets
  pub usage : s.usage ≡ sum_by (λ (b : CountedBucket). b.size) s.buckets

-- a longer history has a longer list, and no event raises the usage past the limit in force
pub record HoldsOfHistory {K : Type 0} (key_at : ℕ → Option K) (opening : Totals) (h : History) : Type 0 where
  pub kept : IsSoundTotals key_at (totals opening h)
  pub grows : (more : History) → IsPrefix (totals opening h).texts (totals opening (h ++ more)).texts
  pub limited : (e : Event) → MayFollow key_at (totals opening h) e → (totals opening h).usage < (counted (totals opening h) e).usage → (counted (totals opening h) e).usage ≤ (counted (totals opening h) e).limit

-- so it is with each legal history of an opening: the contract of `laws::legal_histories_hold`
abbrev pub EachHistoryHolds : {K : Type 0} → (ℕ → Option K) → Type 0
EachHistoryHolds key_at = (opening : Totals) (h : History) → IsOpening key_at opening → IsLegal key_at opening h → HoldsOfHistory key_at opening h

-- if no bucket has room, bytes get no bucket exactly if the limit is below the usage and the bytes: the
-- contract of `laws::charge_refuses_exactly_past_limit`
abbrev pub ChargeRefusesExactlyPastLimit : Type 0
ChargeRefusesExactlyPastLimit = (doubling usage limit n : ℕ) → n ≢ 0 → (bucket_size doubling usage limit n ≡ None) ↔ (limit < usage + n)
