-- The event that a change stands for, and its note.
use Rattle.std.specs.Prelude.{◌≡◌, ℕ, List, [], ◌∷◌, Option, Some, None}
use Rattle.lasso_log.specs.History.{Event, Totals, counted}
use Rattle.lasso_log.specs.Notes.{NoteView, no_totals, lent_by}
use Rattle.lasso_log.specs.LentBuckets.{Site, LentBucket}
use Rattle.lasso_log.specs.declared.log.book.note.Change.{Change}
use Rattle.lasso_log.specs.declared.log.book.note.Change.TheVariants.{Append, Limit}

-- the event that a change stands for
abbrev pub event_of : Change → Event
event_of (Append text) = Event.Append text.now
event_of (Limit limit) = Event.Limit limit

-- how many bytes an event takes
abbrev pub event_bytes : Event → ℕ
event_bytes (Event.Reserve bucket n) = n
event_bytes (Event.Charge size n) = n
event_bytes (Event.Append text) = 0
event_bytes (Event.Limit limit) = 0

-- the note of an event that takes no bytes
abbrev pub note_of : (by : ℕ) (event : Event) (position ticket next : ℕ) → NoteView
note_of by event position ticket next =
    record { by = by; event = event; position = position; ticket = ticket; next = next; opening = no_totals; lent = [] }

-- the note of an event that takes bytes of this bucket
abbrev pub note_in : LentBucket → (by : ℕ) (event : Event) (ticket next : ℕ) → NoteView
note_in b by event ticket next =
    record { by = by; event = event; position = 0; ticket = ticket; next = next; opening = no_totals; lent = b ∷ [] }

-- where a bucket is that has these numbers: its era, its block and its first place there
abbrev pub site_at : List ℕ → Site
site_at (era ∷ block ∷ start ∷ more) = record { era = era; block = block; start = start }
site_at numbers = record { era = 0; block = 0; start = 0 }

-- a bucket that is where these numbers say
abbrev pub bucket_at : List ℕ → (size used : ℕ) → LentBucket
bucket_at numbers size used = record { site = site_at numbers; size = size; used = used }

-- the event leaves the list as it is, and the buckets' bytes
abbrev pub IsQuiet : Event → Type 0
IsQuiet e = ((s : Totals) → (counted s e).texts ≡ s.texts) × ((buckets : List LentBucket) → lent_by buckets e [] ≡ buckets)

-- an update that has something to hand in has not run; another one has nothing to do
abbrev pub ready : {X : Type 0} → Option X → Option ℕ
ready None = Some 0
ready (Some x) = None
