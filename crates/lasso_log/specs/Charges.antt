-- Charges and limits, as calls promise them: the size of a new bucket, the refusal of bytes, and what a new
-- limit leaves.
use Rattle.std.specs.Prelude.{◌≡◌, ℕ, ◌+◌, ◌⊎◌, Bool, MatchBool, List, [], ◌∷◌, length, Option, Some, IsSomeAnd}
use Rattle.lasso_parts.specs.declared.util.LassoErrorKind.{LassoErrorKind}
use Rattle.lasso_parts.specs.declared.util.LassoErrorKind.TheVariants.{FailedAllocation, MemoryLimitReached}
use Rattle.lasso_log.specs.Buckets.{bucket_size, doubling_after}
use Rattle.lasso_log.specs.History.{Charge, Limit, Totals}
use Rattle.lasso_log.specs.LentBuckets.{LentBucket, Site}
use Rattle.lasso_log.specs.Notes.{NoteView, Since, state, IsWordWith}
use Rattle.lasso_log.specs.SharedBuckets.{IsNoteOf}
use Rattle.lasso_log.specs.Turns.{IsTurned, IsSameTurn, IsPastLimit}
use Rattle.lasso_log.specs.Views.{InternerId, PassView, SpineView, TurnsView, list_of}

-- the size of the bucket that n bytes ask for after these turns, or none if the limit refuses it
abbrev pub next_size : TurnsView → ℕ → Option ℕ
next_size t n = bucket_size t.doubling t.usage t.limit n

-- the one event that the pass added is a charge for n bytes, of a bucket of the size that they ask for after these turns
abbrev pub AddsCharge : TurnsView → (n : ℕ) → (before after : PassView) → Type 0
AddsCharge t n before after = IsSomeAnd (next_size t n) (λ size. Since before.number before.notes after.notes (Charge size n ∷ []))

-- the note of that charge is the last one, and says that the bucket is here
abbrev pub NotesCharge : TurnsView → (n : ℕ) → (before after : PassView) → Site → Type 0
NotesCharge t n before after site = IsSomeAnd (next_size t n) (λ size. IsNoteOf before.number after.notes (Charge size n) site)

-- the one event that the pass added is a charge of a bucket of this size, the one that n bytes ask for after these turns
abbrev pub AddsChargeOf : TurnsView → (n size : ℕ) → (before after : PassView) → Type 0
AddsChargeOf t n size before after = Since before.number before.notes after.notes (Charge size n ∷ []) × (next_size t n ≡ Some size)

-- the numbers of a history once a charge of this bucket came after these turns
abbrev pub IsTurnedBy : {Key : Type 0} → (ℕ → Option Key) → Totals → List NoteView → TurnsView → LentBucket → Type 0
IsTurnedBy keys o notes t bucket =
    IsTurned keys o notes (t.turns + 1) (doubling_after t.doubling t.usage t.limit bucket.used) (t.usage + bucket.size) t.limit (t.count + 1)

-- the ground of an error of a call that asks for n bytes: there is no memory; or the limit refuses them, at a step between `before` and
-- `after` at which the list is as long as after the notes `list`
abbrev pub IsRefusal : InternerId → (list before after : List NoteView) → ℕ → LassoErrorKind → Type 0
IsRefusal of list before after n error = (error ≡ FailedAllocation) ⊎ ((error ≡ MemoryLimitReached) × IsPastLimit of.opening before after (length (list_of of list)) n)

-- the turn word has the value of these turns at the end of the notes, so that usage, limit, doubling size and the number of buckets are still
-- what these turns say
abbrev pub AreLast : {Key : Type 0} → (ℕ → Option Key) → Totals → TurnsView → List NoteView → Type 0
AreLast keys o t notes = IsWordWith notes 1 1 t.turns × IsSameTurn (state o t.notes) (state o notes) × IsTurned keys o t.notes t.turns t.doubling t.usage t.limit t.count

-- the pass replaced the limit, by the one event that it added between `before` and `after`: the turns t became u, which have seen that
-- event
abbrev pub SetsLimit : ℕ → (before after : PassView) → (t u : TurnsView) → Type 0
SetsLimit limit before after t u =
    Since before.number before.notes after.notes (Limit limit ∷ [])
    × (u.notes ≡ after.notes) × (u.limit ≡ limit) × (u.count ≡ t.count) × (u.usage ≡ t.usage) × (u.doubling ≡ t.doubling)

-- what a try to replace the limit leaves: it is replaced if the try was done, and otherwise nothing changes
abbrev pub TriesLimit : ℕ → (done : Bool) → (before after : PassView) → (spine_before spine_after : SpineView) → Type 0
TriesLimit limit done before after spine_before spine_after =
    MatchBool done (SetsLimit limit before after spine_before.turns spine_after.turns) ((after ≡ before) × (spine_after ≡ spine_before))
