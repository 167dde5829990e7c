-- A shared interner as a machine, without threads, locks or memory: what it holds, and the steps that its
-- calls take, in any order. Any function may give the texts their shards.
use Rattle.std.specs.Prelude.{◌≡◌, ◌≢◌, ◌⊎◌, ◌==◌, ℕ, ◌+◌, ◌<◌, ◌≤◌, List, [], ◌∷◌, ◌++◌, map, length, Option, Some, None, IsSome, IsSomeAnd, is_some, option_map, option_and_then, slice_get, bytes_eq, nat_eq, nat_lt, if◌then◌else◌, Ok, Err}
use Rattle.lasso_parts.specs.Texts.{Text}
use Rattle.lasso_parts.specs.declared.util.LassoErrorKind.{LassoErrorKind}
use Rattle.lasso_parts.specs.declared.util.LassoErrorKind.TheVariants.{MemoryLimitReached, KeySpaceExhaustion, FailedAllocation}
use Rattle.lasso_log.specs.Buckets.{CountedBucket, with_taken, changed_at, HasNoRoom, bucket_size, doubling_after}
use Rattle.lasso_log.specs.History.{Event, History, Totals}
use Rattle.lasso_log.specs.Replies.{Keeping, Copied, Static, Question, Intern, Get, Contains, ContainsKey, Resolve, Len, IsEmpty, Usage, MaxUsage, Iterate, Strings, Serialize, Reply, Interned, Found, Flag, Resolved, Number, Pairs, Listed}
use Rattle.lasso_shared.specs.Walks.{pairs_from}

-- bytes that were taken in a bucket: where they begin, and how many they are
pub record Range : Type 0 where
  pub start : ℕ
  pub bytes : ℕ

-- a bucket, and the ranges that were taken in it
pub record RangedBucket : Type 0 where
  pub bucket : CountedBucket
  pub ranges : List Range

-- how far a call that interns a text has come
pub data Phase : Type 0 where
  -- the text was looked up, and is absent
  Missing : Phase
  -- the text's bytes are stored
  Stored : Phase
  -- the text is in the list, at this position
  Appended : (position : ℕ) → Phase

-- a call in flight, which interns a text and holds a shard
pub record Call : Type 0 where
  pub number : ℕ
  pub keeping : Keeping
  pub text : Text
  pub shard : ℕ
  pub phase : Phase

-- what the machine holds: the list; the buckets; doubling size, usage and limit; an index for each shard; and
-- the calls in flight
pub record State : Type 0 where
  pub texts : List Text
  pub buckets : List RangedBucket
  pub doubling : ℕ
  pub usage : ℕ
  pub limit : ℕ
  -- each shard's index, from texts to positions
  pub index : ℕ → Text → Option ℕ
  -- the call of each number that is in flight
  pub calls : ℕ → Option Call

-- the steps, each with when it may be taken (`MayStep`) and what it leaves (`after`)
pub data Step : Type 0 where
  -- a call takes its text's shard, and looks the text up: its number is not in flight, and no call holds the
  -- shard. If the index has the text, its key is the reply; else the call is in flight, with the text missing
  Take : (number : ℕ) (keeping : Keeping) (text : Text) → Step
  -- a call takes its text's bytes at the used end of the bucket at this position: the text is missing, copied
  -- and not empty, and the bucket has room. Then it is stored
  Reserve : (call : Call) (position : ℕ) → Step
  -- a call adds a bucket of this size, with its text's bytes taken: the same, but no bucket has room, and the
  -- limit does not refuse. Then it is stored
  Charge : (call : Call) (size : ℕ) → Step
  -- a call puts its text last: it is stored, or missing and static or empty, and the length has a key
  Append : (call : Call) → Step
  -- a call enters its text's position into the index, replies the key, and lets the shard go: the text is
  -- appended
  Release : (call : Call) (position : ℕ) → Step
  -- a call replies this refusal, and lets the shard go. `MemoryLimitReached`: the text is missing, copied and
  -- not empty, no bucket has room, and the limit leaves none. `KeySpaceExhaustion`: it is ready to append,
  -- and the length has no key. `FailedAllocation`: it is missing
  Refuse : (call : Call) (why : LassoErrorKind) → Step
  -- something is read, and nothing changes; a look-up of a text waits until no call holds its shard
  Read : (question : Question) → Step
  -- the limit is replaced, at any time
  SetLimit : (number limit : ℕ) → Step

-- ---- when a step may be taken

-- the call is in flight
abbrev pub IsInFlight : State → Call → Type 0
IsInFlight s c = s.calls c.number ≡ Some c

-- no call holds the shard
abbrev pub IsFree : State → ℕ → Type 0
IsFree s k = (c : Call) → IsInFlight s c → c.shard ≢ k

-- the text has bytes that are to be copied
abbrev pub NeedsBytes : Call → Type 0
NeedsBytes c = (c.keeping ≡ Copied) × (c.text ≢ [])

-- it has none
abbrev pub NeedsNone : Call → Type 0
NeedsNone c = (c.keeping ≡ Static) ⊎ (c.text ≡ [])

-- the call's bytes are stored, or it needs none
abbrev pub IsReady : Call → Type 0
IsReady c = (c.phase ≡ Stored) ⊎ ((c.phase ≡ Missing) × NeedsNone c)

-- the buckets without their ranges
abbrev pub buckets_of : State → List CountedBucket
buckets_of s = map (λ (b : RangedBucket). b.bucket) s.buckets

-- whether a call may be refused like this
abbrev pub MayRefuseCall : {K : Type 0} → (ℕ → Option K) → State → Call → LassoErrorKind → Type 0
MayRefuseCall key_at s c MemoryLimitReached =
    (c.phase ≡ Missing) × NeedsBytes c × HasNoRoom (buckets_of s) (length c.text) × (s.limit < s.usage + length c.text)
MayRefuseCall key_at s c KeySpaceExhaustion = IsReady c × (key_at (length s.texts) ≡ None)
MayRefuseCall key_at s c FailedAllocation = c.phase ≡ Missing

-- whether this may be read: an index only while no call holds its shard
abbrev pub MayRead : (Text → ℕ) → State → Question → Type 0
MayRead shard s (Get text) = IsFree s (shard text)
MayRead shard s (Contains text) = IsFree s (shard text)
MayRead shard s (Intern keeping text) = ⊥
MayRead shard s (Question.SetLimit limit) = ⊥
MayRead shard s Question.Freeze = ⊥
MayRead shard s question = Unit {0}

-- Whether the step may be taken. `shard` gives the shard of each text, and `key_at` the key of each position,
-- or none. No step looks whether the list has a text before it is appended: that no text comes twice follows
-- from who holds a shard.
abbrev pub MayStep : {K : Type 0} → (ℕ → Option K) → (Text → ℕ) → State → Step → Type 0
MayStep key_at shard s (Take number keeping text) = (s.calls number ≡ None) × IsFree s (shard text)
MayStep key_at shard s (Reserve c position) =
    IsInFlight s c × (c.phase ≡ Missing) × NeedsBytes c
    × IsSomeAnd (slice_get (buckets_of s) position) (λ (b : CountedBucket). b.used + length c.text ≤ b.size)
MayStep key_at shard s (Charge c size) =
    IsInFlight s c × (c.phase ≡ Missing) × NeedsBytes c × HasNoRoom (buckets_of s) (length c.text)
    × (bucket_size s.doubling s.usage s.limit (length c.text) ≡ Some size)
MayStep key_at shard s (Append c) = IsInFlight s c × IsReady c × IsSome (key_at (length s.texts))
MayStep key_at shard s (Release c position) = IsInFlight s c × (c.phase ≡ Appended position)
MayStep key_at shard s (Refuse c why) = IsInFlight s c × MayRefuseCall key_at s c why
MayStep key_at shard s (Read question) = MayRead shard s question
MayStep key_at shard s (SetLimit number limit) = Unit {0}

-- ---- what a step leaves

-- the function with another value at this argument
abbrev pub put : {A : Type 0} → (ℕ → A) → ℕ → A → ℕ → A
put f k x i = if i == k then x else f i

-- the call is in flight as it now is
abbrev pub with_call : State → Call → State
with_call s c = record s { calls = put s.calls c.number (Some c) }

-- the call has left
abbrev pub without : State → Call → State
without s c = record s { calls = put s.calls c.number None }

-- the call in this phase
abbrev pub in_phase : Phase → Call → Call
in_phase phase c = record c { phase = phase }

-- the index with one more text
abbrev pub entered : (Text → Option ℕ) → Text → ℕ → Text → Option ℕ
entered index text position t = if bytes_eq text t then Some position else index t

-- the bucket with n more bytes taken at its used end
abbrev pub reserved : ℕ → RangedBucket → RangedBucket
reserved n b =
    record {
      bucket = with_taken n b.bucket;
      ranges = b.ranges ++ record { start = b.bucket.used; bytes = n } ∷ [];
    }

-- a new bucket of this size, with n bytes taken
abbrev pub charged : (size n : ℕ) → RangedBucket
charged size n = record { bucket = record { size = size; used = n }; ranges = record { start = 0; bytes = n } ∷ [] }

-- a call that took its shard is done if the index had its text, and else goes on
abbrev pub taken : State → Call → Option ℕ → State
taken s c (Some position) = s
taken s c None = with_call s c

-- the call as it begins
abbrev pub new_call : (Text → ℕ) → ℕ → Keeping → Text → Call
new_call shard number keeping text =
    record {
      number = number;
      keeping = keeping;
      text = text;
      shard = shard text;
      phase = Missing;
    }

-- what a step leaves
abbrev pub after : (Text → ℕ) → State → Step → State
after shard s (Take number keeping text) = taken s (new_call shard number keeping text) (s.index (shard text) text)
after shard s (Reserve c position) = record (with_call s (in_phase Stored c)) { buckets = changed_at position (reserved (length c.text)) s.buckets }
after shard s (Charge c size) =
    record (with_call s (in_phase Stored c)) {
      buckets = s.buckets ++ charged size (length c.text) ∷ [];
      doubling = doubling_after s.doubling s.usage s.limit (length c.text);
      usage = s.usage + size;
    }
after shard s (Append c) = record (with_call s (in_phase (Appended (length s.texts)) c)) { texts = s.texts ++ c.text ∷ [] }
after shard s (Release c position) = record (without s c) { index = put s.index c.shard (entered (s.index c.shard) c.text position) }
after shard s (Refuse c why) = without s c
after shard s (Read question) = s
after shard s (SetLimit number limit) = record s { limit = limit }

-- ---- what a step adds to the history, and what it replies

-- the events that a step adds to the history
abbrev pub events : Step → History
events (Reserve c position) = (c.number, Event.Reserve position (length c.text)) ∷ []
events (Charge c size) = (c.number, Event.Charge size (length c.text)) ∷ []
events (Append c) = (c.number, Event.Append c.text) ∷ []
events (SetLimit number limit) = (number, Event.Limit limit) ∷ []
events step = []

-- the question with its reply, if it has one
abbrev pub replied : {K : Type 0} → Question → Option (Reply K) → Option (Question × Reply K)
replied question given = option_map (λ r. (question, r)) given

-- the reply to an intern whose text has this key
abbrev pub found_reply : {K : Type 0} → Keeping → Text → Option K → Option (Question × Reply K)
found_reply keeping text key = replied (Intern keeping text) (option_map (λ k. Interned (Ok k)) key)

-- what is read: look-ups of texts read their shard's index, and all else the list, the usage or the limit
abbrev pub read : {K : Type 0} → (ℕ → Option K) → (Text → ℕ) → State → Question → Option (Reply K)
read key_at shard s (Get text) = Some (Found (option_and_then key_at (s.index (shard text) text)))
read key_at shard s (Contains text) = Some (Flag (is_some (s.index (shard text) text)))
read key_at shard s (ContainsKey number) = Some (Flag (nat_lt number (length s.texts)))
read key_at shard s (Resolve number) = Some (Resolved (slice_get s.texts number))
read key_at shard s Len = Some (Number (length s.texts))
read key_at shard s IsEmpty = Some (Flag (nat_eq (length s.texts) 0))
read key_at shard s Usage = Some (Number s.usage)
read key_at shard s MaxUsage = Some (Number s.limit)
read key_at shard s Iterate = Some (Pairs (pairs_from key_at 0 s.texts))
read key_at shard s Strings = Some (Listed (Ok s.texts))
read key_at shard s Serialize = Some (Listed (Ok s.texts))
read key_at shard s question = None

-- what a step replies, and to what; none, if it replies nothing
abbrev pub reply : {K : Type 0} → (ℕ → Option K) → (Text → ℕ) → State → Step → Option (Question × Reply K)
reply key_at shard s (Take number keeping text) = found_reply keeping text (option_and_then key_at (s.index (shard text) text))
reply key_at shard s (Release c position) = found_reply c.keeping c.text (key_at position)
reply key_at shard s (Refuse c why) = Some (Intern c.keeping c.text, Interned (Err why))
reply key_at shard s (Read question) = replied question (read key_at shard s question)
reply key_at shard s step = None

-- what the state holds, without ranges, indexes and calls
abbrev pub sums : State → Totals
sums s =
    record {
      texts = s.texts;
      buckets = buckets_of s;
      doubling = s.doubling;
      usage = s.usage;
      limit = s.limit;
    }
