-- What contracts see of buckets of the shared arena: of what is owned of one, of one that is not in a history yet, and of one that is.
use Rattle.std.specs.Prelude.{◌≡◌, ℕ, suc, ◌+◌, ◌-◌, ◌^◌, ◌≤◌, ◌<◌, List, [], ◌∷◌, ◌++◌, Option, Some, None, slice_get, IsSomeAnd}
use denote.RawPtr.{Ptr, block_ptr}
use Rattle.logbook.specs.Pages.{Book, Named}
use Rattle.lasso_log.specs.Buckets.{CountedBucket}
use Rattle.lasso_log.specs.History.{Event, Reserve, Totals}
use Rattle.lasso_log.specs.Notes.{NoteView, state, words_of, lent_after, bucket_in, first_note, notes_of, IsOpened, Since}
use Rattle.lasso_log.specs.Book.{word_of}
use Rattle.lasso_log.specs.Chunks.{era_named}
use Rattle.lasso_log.specs.Events.{site_at, bucket_at}
use Rattle.lasso_log.specs.LentBuckets.{Site, LentBucket, IsRightTo}
use Rattle.lasso_log.specs.Pieces.{RangeView}
use Rattle.lasso_log.specs.Views.{InternerId, PassView, interner_seen}
use Rattle.lasso_log.specs.declared.shared_memory.rights.Free.{Free}
use Rattle.lasso_log.specs.declared.shared_memory.rights.Owed.{Owed}

-- the bucket whose bytes are owed
abbrev pub bucket_owed : Owed → LentBucket
bucket_owed r = record { site = record { era = r.era; block = r.block; start = r.start }; size = r.len; used = 0 }

-- its bytes are lent for this era
abbrev pub IsOfEra : ℕ → LentBucket → Type 0
IsOfEra era b = b.site.era ≡ era

-- the bucket of this size that is where these numbers say is put last: its bytes are lent for the era, and fewer than 2 ^ 63
abbrev pub AddsLent : (before after : List LentBucket) → (numbers : List ℕ) → (size era : ℕ) → Type 0
AddsLent before after numbers size era = (after ≡ before ++ bucket_at numbers size 0 ∷ []) × ((site_at numbers).era ≡ era) × (size < 2 ^ 63)

-- a holding, what is owned of a bucket: these are the words of the right to have its bytes back, and what the
-- right to free it is for
pub record IsHolding (r : Owed) (ptr : Ptr) (size : ℕ) (at : Ptr) (len : ℕ) : Type 0 where
  pub address : ptr ≡ block_ptr r.block r.start
  pub count : r.len ≡ size
  pub small : size < 2 ^ 63
  pub block : at ≡ ptr
  pub bytes : len ≡ size

-- a new bucket, which is in no history yet: these are its words, and the right to its bytes that were not
-- taken
pub record IsNewBucket (r : Free) (numbers : List ℕ) (ptr : Ptr) (size taken : ℕ) : Type 0 where
  pub address : ptr ≡ block_ptr (site_at numbers).block (site_at numbers).start
  pub right : IsRightTo r (bucket_at numbers size taken) (size - taken)
  pub within : taken ≤ size
  pub small : size < 2 ^ 63

-- the bucket at this position of a history that was seen: its word, what the history counts of it, and where
-- it is. Each event changes the three alike
pub record Stands (words : List (ℕ × ℕ)) (buckets : List CountedBucket) (rights : List LentBucket) (position key value : ℕ) (b : CountedBucket) (x : LentBucket) : Type 0 where
  pub word : slice_get words (suc (suc position)) ≡ Some (key, value)
  pub counted : slice_get buckets position ≡ Some b
  pub lent : slice_get rights position ≡ Some x

-- the same, of a log's first note and the notes past it
abbrev pub StandsIn : NoteView → List NoteView → ℕ → ℕ → ℕ → CountedBucket → LentBucket → Type 0
StandsIn first notes position key value b x = Stands (words_of notes) (state first.opening notes).buckets (lent_after first.lent notes) position key value b x

-- the bucket at this position has this size and is where the numbers say; `base` of its bytes were taken before its word began
pub record IsBucketAt (first : NoteView) (notes : List NoteView) (position key base size : ℕ) (numbers : List ℕ) : Type 0 where
  pub value : ℕ
  pub stands : StandsIn first notes position key value record { size = size; used = base + value } (bucket_at numbers size (base + value))

-- a shared bucket, one of a history that was seen: its interner, its position there, where it is, how many
-- bytes it has, and how many of them were taken before its word began
pub record SharedView : Type 0 where
  pub of : InternerId
  pub position : ℕ
  pub site : Site
  pub size : ℕ
  pub base : ℕ

-- a bucket of a log that was seen
abbrev pub shared_seen : Book → (names : List ℕ) → (log : List NoteView) → (position : ℕ) → Site → (size base : ℕ) → SharedView
shared_seen book names log position site size base =
    record {
      of = interner_seen book names log;
      position = position;
      site = site;
      size = size;
      base = base;
    }

-- these are the parts of a bucket of a log that was seen
pub record IsShared (book : Book) (names : List ℕ) (log : List NoteView) (word : Named) (ptr : Ptr) (position base size : ℕ) (numbers : List ℕ) : Type 0 where
  pub own : word ≡ word_of book word.key
  pub opened : IsOpened log
  pub stands : IsBucketAt (first_note log) (notes_of log) position word.key base size numbers
  pub address : ptr ≡ block_ptr (site_at numbers).block (site_at numbers).start
  pub era : (site_at numbers).era ≡ era_named names
  pub within : base ≤ size
  pub small : size < 2 ^ 63
  pub few : position + 2 < 2 ^ 64

-- the bucket at this position of what a history adds up to has this many bytes taken
abbrev pub HasTaken : Totals → ℕ → ℕ → Type 0
HasTaken s position n = IsSomeAnd (slice_get s.buckets position) (λ (b : CountedBucket). b.used ≡ n)

-- n bytes do not fit into the bucket at this position
abbrev pub LacksRoom : Totals → ℕ → ℕ → Type 0
LacksRoom s position n = IsSomeAnd (slice_get s.buckets position) (λ (b : CountedBucket). b.size < b.used + n)

-- the range of the bytes that a reservation, the last of these notes, took of the bucket: they follow those
-- that were taken before it
pub record IsRangeOf (b : SharedView) (notes : List NoteView) (r : RangeView) (bytes : ℕ) : Type 0 where
  pub before : ℕ
  pub era : r.era ≡ era_named b.of.chunks
  pub block : r.block ≡ b.site.block
  pub start : r.start ≡ b.site.start + before
  pub len : r.len ≡ bytes
  pub taken : HasTaken (state b.of.opening notes) b.position (before + bytes)

-- the last of these notes is of this event, which is the pass p's, and the bucket that it speaks of is here
pub record IsNoteOf (p : ℕ) (notes : List NoteView) (e : Event) (site : Site) : Type 0 where
  pub before : List NoteView
  pub note : NoteView
  pub last : notes ≡ before ++ note ∷ []
  pub own : note.by ≡ p
  pub event : note.event ≡ e
  pub lies : (bucket_in note.lent).site ≡ site

-- the range has the bytes that a reservation took of the bucket b, which is the one event of the pass p past `before`
pub record IsReserved (b : SharedView) (p : ℕ) (before after : List NoteView) (r : RangeView) (bytes : ℕ) : Type 0 where
  pub event : Since p before after (Reserve b.position bytes ∷ [])
  pub note : IsNoteOf p after (Reserve b.position bytes) b.site
  pub range : IsRangeOf b after r bytes

-- the range has the bytes that a reservation took of a bucket of the interner, one of the first `count`; the reservation is the one event that the
-- pass added
abbrev pub ReservesAmong : InternerId → (count : ℕ) → (before after : PassView) → RangeView → (bytes : ℕ) → Type 0
ReservesAmong of count before after r bytes =
    (b : SharedView) × (b.of ≡ of) × (b.position < count) × IsReserved b before.number before.notes after.notes r bytes

-- what a call found that did not wait, if it did find something
abbrev pub joined : {A : Type 0} → Option (Option A) → Option A
joined None = None
joined (Some found) = found

-- where a bucket is whose first bytes the range has
abbrev pub site_of : RangeView → Site
site_of r = record { era = r.era; block = r.block; start = r.start }

-- the numbers of an interner's book, and after them its names: what contracts see of its list of buckets.
-- Each bucket in that list, of which the opening's is the first, is of that book and has these names;
-- contracts do not see which buckets are in it
abbrev pub names_with_book : InternerId → List ℕ
names_with_book of = of.book.number ∷ of.book.log_name ∷ of.book.cells_name ∷ of.chunks
