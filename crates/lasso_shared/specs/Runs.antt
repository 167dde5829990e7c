-- What holds of every run of the machine.
use Rattle.std.specs.Prelude.{◌≡◌, ◌⊎◌, ◌==◌, ℕ, ◌+◌, ◌<◌, ◌≤◌, List, [], ◌∷◌, ◌++◌, length, Option, Some, None, IsSome, IfSome, option_to_list, All, slice_get, if◌then◌else◌}
use mathlib.Core.List.{IsPrefix}
use Rattle.lasso_parts.specs.Texts.{Text, position_of, IsDistinct, Fits}
use Rattle.lasso_log.specs.History.{History, IsOpening, totals, Lacks, IsLegal}
use Rattle.lasso_log.specs.Replies.{Question, Reply, MayReply}
use Rattle.lasso_shared.specs.Machine.{Range, RangedBucket, Phase, Missing, Stored, Appended, Call, State, Step, Take, Release, Refuse, Read, IsInFlight, IsFree, MayStep, after, events, reply, sums}

-- what shard k's index has of the text while no call is in flight: its position, if it is one of the shard's
abbrev pub position_in : (Text → ℕ) → State → ℕ → Text → Option ℕ
position_in shard s k text = if shard text == k then position_of s.texts text else None

-- the ranges follow one another from one number of bytes to another
abbrev pub Follow : (start end : ℕ) → List Range → Type 0
Follow start end [] = start ≡ end
Follow start end (r ∷ rs) = (r.start ≡ start) × Follow (start + r.bytes) end rs

-- the ranges follow one another from 0 to the used end, which is inside
abbrev pub IsFilled : RangedBucket → Type 0
IsFilled b = Follow 0 b.bucket.used b.ranges × (b.bucket.used ≤ b.bucket.size)

-- the text of an appended call is at its position, and the list lacks that of any other
abbrev pub StandsBy : State → Text → Phase → Type 0
StandsBy s text (Appended position) = slice_get s.texts position ≡ Some text
StandsBy s text Missing = Lacks s.texts text
StandsBy s text Stored = Lacks s.texts text

-- the index of a held shard is exact for the text, or lacks it if the holder has just appended it
abbrev pub IsNearly : (Text → ℕ) → State → Call → Text → Type 0
IsNearly shard s c text =
    (s.index c.shard text ≡ position_in shard s c.shard text)
    ⊎ ((text ≡ c.text) × (s.index c.shard text ≡ None) × (position : ℕ) × (c.phase ≡ Appended position))

-- a good state
pub record IsGood {K : Type 0} (key_at : ℕ → Option K) (shard : Text → ℕ) (s : State) : Type 0 where
  -- no text occurs twice, and each position has a key
  pub distinct : IsDistinct s.texts
  pub fits : Fits key_at (length s.texts)
  -- each call has its own number and holds its text's shard, and no two hold one
  pub numbered : (number : ℕ) (c : Call) → s.calls number ≡ Some c → c.number ≡ number
  pub own : (c : Call) → IsInFlight s c → c.shard ≡ shard c.text
  pub apart : (c d : Call) → IsInFlight s c → IsInFlight s d → c.shard ≡ d.shard → c.number ≡ d.number
  -- the index of a free shard has exactly the shard's texts, and that of a held one lacks at most its holder's
  pub exact : (k : ℕ) (text : Text) → IsFree s k → s.index k text ≡ position_in shard s k text
  pub nearly : (c : Call) (text : Text) → IsInFlight s c → IsNearly shard s c text
  -- an appended text is at its position, and any other call's is absent
  pub stands : (c : Call) → IsInFlight s c → StandsBy s c.text c.phase
  -- no two ranges of a bucket overlap, and none passes its end
  pub filled : All IsFilled s.buckets

-- a start, with which a run begins: an opening, with exact indexes, ranges in order and no call in flight
pub record IsStart {K : Type 0} (key_at : ℕ → Option K) (shard : Text → ℕ) (s : State) : Type 0 where
  pub opening : IsOpening key_at (sums s)
  pub filled : All IsFilled s.buckets
  pub index : (k : ℕ) (text : Text) → s.index k text ≡ position_in shard s k text
  pub idle : (number : ℕ) → s.calls number ≡ None

-- each of the steps may be taken after the ones before it
abbrev pub IsRun : {K : Type 0} → (ℕ → Option K) → (Text → ℕ) → State → List Step → Type 0
IsRun key_at shard s [] = Unit {0}
IsRun key_at shard s (step ∷ steps) = MayStep key_at shard s step × IsRun key_at shard (after shard s step) steps

-- where the steps lead
abbrev pub run : (Text → ℕ) → State → List Step → State
run shard s [] = s
run shard s (step ∷ steps) = run shard (after shard s step) steps

-- the events of the steps
abbrev pub run_history : List Step → History
run_history [] = []
run_history (step ∷ steps) = events step ++ run_history steps

-- what the steps reply, in order
abbrev pub replies : {K : Type 0} → (ℕ → Option K) → (Text → ℕ) → State → List Step → List (Question × Reply K)
replies key_at shard s [] = []
replies key_at shard s (step ∷ steps) = option_to_list (reply key_at shard s step) ++ replies key_at shard (after shard s step) steps

-- whether the step replies: a call that found its text or appended it, a refusal, a reading
abbrev pub OwesReply : (Text → ℕ) → State → Step → Type 0
OwesReply shard s (Take number keeping text) = IsSome (s.index (shard text) text)
OwesReply shard s (Release c position) = Unit {0}
OwesReply shard s (Refuse c why) = Unit {0}
OwesReply shard s (Read question) = Unit {0}
OwesReply shard s step = ⊥

-- what one step does
pub record IsSoundStep {K : Type 0} (key_at : ℕ → Option K) (shard : Text → ℕ) (s : State) (step : Step) : Type 0 where
  pub grows : IsPrefix s.texts (after shard s step).texts
  pub limited : s.usage < (after shard s step).usage → (after shard s step).usage ≤ (after shard s step).limit
  -- a reply is explained by what the state holds, which a step that replies leaves as it is
  pub explained : IfSome (reply key_at shard s step) (λ r. MayReply key_at (sums s) r.0 r.1)
  pub stays : IfSome (reply key_at shard s step) (λ r. sums (after shard s step) ≡ sums s)
  pub answers : OwesReply shard s step → IsSome (reply key_at shard s step)

-- what holds of these steps from the start on, and of any one more
pub record HoldsInRun {K : Type 0} (key_at : ℕ → Option K) (shard : Text → ℕ) (start : State) (steps : List Step) : Type 0 where
  pub good : IsGood key_at shard (run shard start steps)
  pub grows : IsPrefix start.texts (run shard start steps).texts
  pub sound : (step : Step) → MayStep key_at shard (run shard start steps) step → IsSoundStep key_at shard (run shard start steps) step
  pub legal : IsLegal key_at (sums start) (run_history steps)
  pub adds_up : totals (sums start) (run_history steps) ≡ sums (run shard start steps)

-- the law, for keys that are given by this function: the contract of `machine::all_runs` and
-- `machine::all_runs_of`
abbrev pub EachRunHolds : {K : Type 0} → (ℕ → Option K) → Type 0
EachRunHolds key_at =
    (shard : Text → ℕ) (start : State) (steps : List Step)
    → IsStart key_at shard start → IsRun key_at shard start steps → HoldsInRun key_at shard start steps
