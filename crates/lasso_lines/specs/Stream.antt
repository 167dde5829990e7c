-- What a call does to the bytes of a reader or a writer, where they are known.
use Rattle.std.specs.Prelude.{ℕ, ◌≡◌, List, [], ◌++◌, drop, take, Option, Some, None, Result, Ok, Err, MatchResult, Vec}

-- the first list is a beginning of the second
abbrev pub Begins : List ℕ → List ℕ → Type 0
Begins part whole = (rest : List ℕ) × (whole ≡ part ++ rest)

-- known bytes grow by a part that satisfies P
abbrev pub Grows : Option (List ℕ) → Option (List ℕ) → (List ℕ → Type 0) → Type 0
Grows before after P = (held : List ℕ) → before ≡ Some held → (part : List ℕ) × (after ≡ Some (held ++ part)) × P part

-- known bytes stay, and others may follow
abbrev pub OnlyGrows : Option (List ℕ) → Option (List ℕ) → Type 0
OnlyGrows before after = Grows before after (λ _. Unit {0})

-- known bytes stay as they are
abbrev pub Stays : Option (List ℕ) → Option (List ℕ) → Type 0
Stays before after = (held : List ℕ) → before ≡ Some held → after ≡ Some held

-- known bytes lose the first `count`
abbrev pub Loses : ℕ → Option (List ℕ) → Option (List ℕ) → Type 0
Loses count before after = (held : List ℕ) → before ≡ Some held → after ≡ Some (drop count held)

-- the known bytes begin with these
abbrev pub ComeFirst : List ℕ → Option (List ℕ) → Type 0
ComeFirst bytes known = (held : List ℕ) → known ≡ Some held → Begins bytes held

-- none of the known bytes are left
abbrev pub Ended : Option (List ℕ) → Option (List ℕ) → Type 0
Ended before after = (held : List ℕ) → before ≡ Some held → after ≡ Some []

-- the delivered bytes and then the pending ones, where both are known
abbrev pub written : Option (List ℕ) → Option (List ℕ) → Option (List ℕ)
written None pending = None
written (Some delivered) None = None
written (Some delivered) (Some pending) = Some (delivered ++ pending)

-- the bytes of a writer, delivered and then pending, grow by a part that satisfies P
abbrev pub Writes : {W : Type 0} → (W → Option (List ℕ)) → (W → Option (List ℕ)) → W → W → (List ℕ → Type 0) → Type 0
Writes delivered pending before after P = Grows (written (delivered before) (pending before)) (written (delivered after) (pending after)) P

-- they stay as they are
abbrev pub Keeps : {W : Type 0} → (W → Option (List ℕ)) → (W → Option (List ℕ)) → W → W → Type 0
Keeps delivered pending before after = Stays (written (delivered before) (pending before)) (written (delivered after) (pending after))

-- the part is as many of the bytes as the call took, from the front; if the call failed, it is a beginning of them
abbrev pub Takes : {E : Type 0} → List ℕ → Result ℕ E → List ℕ → Type 0
Takes bytes result part = MatchResult result (λ n. part ≡ take n bytes) (λ _. Begins part bytes)

-- the bytes that an inner writer has, and then those of the buffer in front of it that are not sent
abbrev pub taken : {W A : Type 0} → (W → Option (List ℕ)) → W → ℕ → Vec ℕ A → Option (List ℕ)
taken contents inner sent buffer = written (contents inner) (Some (drop sent buffer.items))

-- 1 if the call failed, else 0
abbrev pub failed_calls : {X E : Type 0} → Result X E → ℕ
failed_calls (Ok _) = 0
failed_calls (Err _) = 1

-- a reader: the bytes in its buffer and all bytes left to read, where known, and the number of failed calls
pub record ReaderView : Type 0 where
  pub at_hand : List ℕ
  pub left : Option (List ℕ)
  pub failures : ℕ

-- a writer: the delivered and the pending bytes, where known, the number of failed calls, and how many
-- bytes `take_line` has room for
pub record WriterView : Type 0 where
  pub delivered : Option (List ℕ)
  pub pending : Option (List ℕ)
  pub failures : ℕ
  pub room : ℕ
