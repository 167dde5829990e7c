-- What may be asked of a shared interner, and what it may reply if a history adds up to these totals.
use Rattle.std.specs.Prelude.{◌≡◌, ◌≢◌, ◌⊎◌, ℕ, ◌+◌, ◌<◌, Bool, List, [], map, length, Option, Some, None, is_some, slice_get, nat_eq, nat_lt, Result, Ok, Err}
use Rattle.std.specs.List.{enumerate_from}
use Rattle.lasso_parts.specs.Texts.{Text, position_of, key_of}
use Rattle.lasso_parts.specs.declared.util.LassoErrorKind.{LassoErrorKind}
use Rattle.lasso_parts.specs.declared.util.LassoErrorKind.TheVariants.{MemoryLimitReached, KeySpaceExhaustion, FailedAllocation}
use Rattle.lasso_log.specs.Buckets.{HasNoRoom}
use Rattle.lasso_log.specs.History.{Totals, Lacks}

-- how a text is kept: its bytes are copied into a bucket, or it is kept as it is
pub data Keeping : Type 0 where
  Copied : Keeping
  Static : Keeping

-- what may be asked
pub data Question : Type 0 where
  Intern : (keeping : Keeping) (text : Text) → Question
  Get : (text : Text) → Question
  Contains : (text : Text) → Question
  -- a key is given by its number
  ContainsKey : (number : ℕ) → Question
  Resolve : (number : ℕ) → Question
  Len : Question
  IsEmpty : Question
  Usage : Question
  MaxUsage : Question
  SetLimit : (limit : ℕ) → Question
  -- a walk over keys and texts, and one over texts
  Iterate : Question
  Strings : Question
  -- the JSON form of the list
  Serialize : Question
  -- a reader or a resolver of the list
  Freeze : Question

-- what may be replied
pub data Reply (K : Type 0) : Type 0 where
  -- to an intern
  Interned : Result K LassoErrorKind → Reply K
  -- to the look-up of a text
  Found : Option K → Reply K
  Flag : Bool → Reply K
  Resolved : Option Text → Reply K
  Number : ℕ → Reply K
  Done : Reply K
  -- what a walk over keys and texts gives
  Pairs : List (K × Text) → Reply K
  -- the list that a walk gives, or that was written or copied
  Listed : Result (List Text) LassoErrorKind → Reply K

-- the texts in order, each with the key of its position
abbrev pub keyed : {K : Type 0} → (ℕ → Option K) → List Text → List (Option K × Text)
keyed key_at texts = map (λ e. (key_at e.0, e.1)) (enumerate_from 0 texts)

-- these are the pairs of a walk over the texts
abbrev pub IsWalkOf : {K : Type 0} → (ℕ → Option K) → List Text → List (K × Text) → Type 0
IsWalkOf {K} key_at texts pairs = map {B = Option K × Text} (λ e. (Some e.0, e.1)) pairs ≡ keyed key_at texts

-- the list is written or copied, unless memory runs out
abbrev pub MayCopy : List Text → Result (List Text) LassoErrorKind → Type 0
MayCopy texts reply = (reply ≡ Ok texts) ⊎ (reply ≡ Err FailedAllocation)

-- What an intern may reply: the key of the text's position. Or, if the list lacks the text:
-- `KeySpaceExhaustion`, its length has no key; `MemoryLimitReached`, the text is copied and not empty, no
-- bucket has room for it, and the usage and its length are above the limit; `FailedAllocation`.
abbrev pub MayIntern : {K : Type 0} → (ℕ → Option K) → Totals → Keeping → Text → Result K LassoErrorKind → Type 0
MayIntern key_at s keeping text (Ok k) = key_of key_at s.texts text ≡ Some k
MayIntern key_at s keeping text (Err KeySpaceExhaustion) = Lacks s.texts text × (key_at (length s.texts) ≡ None)
MayIntern key_at s keeping text (Err MemoryLimitReached) =
    Lacks s.texts text × (keeping ≡ Copied) × (text ≢ []) × HasNoRoom s.buckets (length text) × (s.limit < s.usage + length text)
MayIntern key_at s keeping text (Err FailedAllocation) = Lacks s.texts text

-- What may be replied to the question; any other reply may not. To an intern, as `MayIntern`. To `Get`, the
-- key of the text's position, or none; to `Contains`, whether the list has it. To `ContainsKey`, whether the
-- number is below the length; to `Resolve`, the text at that position, or none. To `Len`, `IsEmpty`, `Usage`
-- and `MaxUsage`, the length, whether it is 0, the usage and the limit. To `Iterate` and `Strings`, all texts
-- in order, with their keys or without. To `Serialize` and `Freeze`, the list, or `FailedAllocation`. To
-- `SetLimit`, that it is done.
abbrev pub MayReply : {K : Type 0} → (ℕ → Option K) → Totals → Question → Reply K → Type 0
MayReply key_at s (Intern keeping text) (Interned reply) = MayIntern key_at s keeping text reply
MayReply key_at s (Get text) (Found reply) = reply ≡ key_of key_at s.texts text
MayReply key_at s (Contains text) (Flag reply) = reply ≡ is_some (position_of s.texts text)
MayReply key_at s (ContainsKey number) (Flag reply) = reply ≡ nat_lt number (length s.texts)
MayReply key_at s (Resolve number) (Resolved reply) = reply ≡ slice_get s.texts number
MayReply key_at s Len (Number reply) = reply ≡ length s.texts
MayReply key_at s IsEmpty (Flag reply) = reply ≡ nat_eq (length s.texts) 0
MayReply key_at s Usage (Number reply) = reply ≡ s.usage
MayReply key_at s MaxUsage (Number reply) = reply ≡ s.limit
MayReply key_at s (SetLimit limit) Done = Unit {0}
MayReply key_at s Iterate (Pairs reply) = IsWalkOf key_at s.texts reply
MayReply key_at s Strings (Listed reply) = reply ≡ Ok s.texts
MayReply key_at s Serialize (Listed reply) = MayCopy s.texts reply
MayReply key_at s Freeze (Listed reply) = MayCopy s.texts reply
MayReply key_at s question reply = ⊥
