-- The history of a shared interner: its events, what they add up to, and which may follow.
use Rattle.std.specs.Prelude.{◌≡◌, ◌≢◌, ℕ, ◌+◌, ◌≤◌, List, [], ◌∷◌, ◌++◌, length, Option, Some, None, IsSome, IsSomeAnd, slice_get}
use Rattle.lasso_parts.specs.Texts.{Text, position_of, IsDistinct, Fits}
use Rattle.lasso_log.specs.Buckets.{CountedBucket, with_taken, changed_at, HasNoRoom, bucket_size, doubling_after}

-- what threads do to a shared interner
pub data Event : Type 0 where
  -- bytes were taken in the bucket at this position
  Reserve : (bucket bytes : ℕ) → Event
  -- a bucket of this size was added, with these bytes taken
  Charge : (size bytes : ℕ) → Event
  -- the text was put last
  Append : (text : Text) → Event
  -- the limit was replaced
  Limit : (limit : ℕ) → Event

-- the events in order, each with the number of the pass that made it
abbrev pub History : Type 0
History = List (ℕ × Event)

-- what an opening holds, and what a history adds up to
pub record Totals : Type 0 where
  -- the texts in the order of their keys
  pub texts : List Text
  pub buckets : List CountedBucket
  -- the size that the next growth doubles
  pub doubling : ℕ
  -- bytes that all buckets take
  pub usage : ℕ
  -- the most bytes that they may take
  pub limit : ℕ

-- an opening with these texts, and one bucket of this size of which `used` bytes are taken: doubling size and
-- usage are that size. An interner of `from_static` opens with its words, and no byte is taken
abbrev pub opened : List Text → (size used limit : ℕ) → Totals
opened texts size used limit =
    record {
      texts = texts;
      buckets = record { size = size; used = used } ∷ [];
      doubling = size;
      usage = size;
      limit = limit;
    }

-- what an interner may begin with: the list is distinct and fits the keys, and there is one bucket, whose size is not 0
pub record IsOpening {K : Type 0} (key_at : ℕ → Option K) (opening : Totals) : Type 0 where
  pub distinct : IsDistinct opening.texts
  pub fits : Fits key_at (length opening.texts)
  pub bucket : (size used : ℕ) × (size ≢ 0) × (used ≤ size) × (opening ≡ opened opening.texts size used opening.limit)

-- the totals after one more event
abbrev pub counted : Totals → Event → Totals
counted s (Reserve bucket n) = record s { buckets = changed_at bucket (with_taken n) s.buckets }
counted s (Charge size n) =
    record s {
      buckets = s.buckets ++ record { size = size; used = n } ∷ [];
      doubling = doubling_after s.doubling s.usage s.limit n;
      usage = s.usage + size;
    }
counted s (Append text) = record s { texts = s.texts ++ text ∷ [] }
counted s (Limit limit) = record s { limit = limit }

-- the totals after the history, from the opening on. The list is the opening's with the appended texts after
-- it; the usage grows by the size of each bucket that is charged; the limit is the last one set
abbrev pub totals : Totals → History → Totals
totals s [] = s
totals s (e ∷ es) = totals (counted s e.1) es

-- the text is not in the list
abbrev pub Lacks : List Text → Text → Type 0
Lacks texts text = position_of texts text ≡ None

-- whether the event may come at these totals. `Reserve`: n is not 0, and the used bytes and n are at most the
-- bucket's size. `Charge`: n is not 0, no bucket has room for n bytes, the size is `bucket_size` of n, and
-- the usage and the size are at most the limit. `Append`: the list lacks the text, and its length has a key.
-- `Limit`: always
abbrev pub MayFollow : {K : Type 0} → (ℕ → Option K) → Totals → Event → Type 0
MayFollow key_at s (Reserve bucket n) = (n ≢ 0) × IsSomeAnd (slice_get s.buckets bucket) (λ (b : CountedBucket). b.used + n ≤ b.size)
MayFollow key_at s (Charge size n) =
    (n ≢ 0) × HasNoRoom s.buckets n × (bucket_size s.doubling s.usage s.limit n ≡ Some size) × (s.usage + size ≤ s.limit)
MayFollow key_at s (Append text) = Lacks s.texts text × IsSome (key_at (length s.texts))
MayFollow key_at s (Limit limit) = Unit {0}

-- the history is legal: each event may come after the ones before it
abbrev pub IsLegal : {K : Type 0} → (ℕ → Option K) → Totals → History → Type 0
IsLegal key_at s [] = Unit {0}
IsLegal key_at s (e ∷ es) = MayFollow key_at s e.1 × IsLegal key_at (counted s e.1) es
