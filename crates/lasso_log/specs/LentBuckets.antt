-- Buckets whose bytes are lent for an era: where they are, and what the book keeps of each, the right to the bytes that nobody has taken.
use Rattle.std.specs.Prelude.{◌≡◌, ℕ, ◌+◌, ◌-◌, ◌≤◌, List, [], ◌∷◌, ◌++◌, Some, slice_get}
use base.Fml.{Fml, ftrue, fsep}
use Rattle.lasso_parts.specs.Texts.{Text}
use Rattle.lasso_log.specs.Buckets.{changed_at}
use Rattle.lasso_log.specs.Chunks.{PutsLastAt}
use Rattle.lasso_log.specs.Eras.{free}
use Rattle.lasso_log.specs.declared.shared_memory.rights.Free.{Free}

-- where a bucket is: the era that its bytes are lent for, its block of memory, and its first place there
pub record Site : Type 0 where
  pub era : ℕ
  pub block : ℕ
  pub start : ℕ

-- a bucket: where it is, how many bytes it has, and how many of them were taken, from its start on
pub record LentBucket : Type 0 where
  pub site : Site
  pub size : ℕ
  pub used : ℕ

-- the bucket with n more bytes taken
abbrev pub more_taken : ℕ → LentBucket → LentBucket
more_taken n b = record b { used = b.used + n }

-- the right to the next n bytes of a bucket
abbrev pub next_bytes : LentBucket → ℕ → Fml
next_bytes b n = free b.site.era b.site.block (b.site.start + b.used) n

-- the right to all bytes of it that are not taken
abbrev pub untaken : LentBucket → Fml
untaken b = next_bytes b (b.size - b.used)

-- the same of each of these buckets
abbrev pub all_untaken : List LentBucket → Fml
all_untaken [] = ftrue
all_untaken (b ∷ bs) = fsep (untaken b) (all_untaken bs)

-- n bytes are taken in the bucket b at this position
pub record TakesBytesAt {E : Type 0} (buckets : List E → List LentBucket) (position : ℕ) (b : LentBucket) (n : ℕ) (before after : List E) : Type 0 where
  pub bucket : slice_get (buckets before) position ≡ Some b
  pub fits : b.used + n ≤ b.size
  pub done : buckets after ≡ changed_at position (more_taken n) (buckets before)

-- the bucket b is put last
abbrev pub AddsBucket : {E : Type 0} → (List E → List LentBucket) → LentBucket → List E → List E → Type 0
AddsBucket buckets b before after = buckets after ≡ buckets before ++ b ∷ []

-- each move of an update for this note puts its text last, at its position, and leaves the buckets as they are
abbrev pub OnlyPutsText : {E : Type 0} → (moves : E → List E → List E → Type 0) → (texts : List E → List Text) → (buckets : List E → List LentBucket) → (position_of : E → ℕ) → (text_of : E → Text) → E → Type 0
OnlyPutsText {E} moves texts buckets position_of text_of note =
    (before after : List E) → moves note before after → PutsLastAt texts (position_of note) (text_of note) before after × (buckets after ≡ buckets before)

-- each takes the next bytes of its bucket, at this position, and leaves the texts as they are
abbrev pub OnlyTakesBytes : {E : Type 0} → (moves : E → List E → List E → Type 0) → (texts : List E → List Text) → (buckets : List E → List LentBucket) → (bucket_of : E → LentBucket) → (bytes_of : E → ℕ) → E → (position : ℕ) → Type 0
OnlyTakesBytes {E} moves texts buckets bucket_of bytes_of note position =
    (before after : List E) → moves note before after → (texts after ≡ texts before) × TakesBytesAt buckets position (bucket_of note) (bytes_of note) before after

-- each puts its bucket last, and leaves the texts as they are
abbrev pub OnlyAddsBucket : {E : Type 0} → (moves : E → List E → List E → Type 0) → (texts : List E → List Text) → (buckets : List E → List LentBucket) → (bucket_of : E → LentBucket) → E → Type 0
OnlyAddsBucket {E} moves texts buckets bucket_of note =
    (before after : List E) → moves note before after → (texts after ≡ texts before) × AddsBucket buckets (bucket_of note) before after

-- what is left of the right to fill places once that to the first n is taken from it
abbrev pub LeavesRest : (before after : Free) → ℕ → Type 0
LeavesRest before after n = (after.era ≡ before.era) × (after.block ≡ before.block) × (after.start ≡ before.start + n) × (after.len + n ≡ before.len)

-- the right is to the next n bytes of the bucket
pub record IsRightTo (r : Free) (b : LentBucket) (n : ℕ) : Type 0 where
  pub era : r.era ≡ b.site.era
  pub block : r.block ≡ b.site.block
  pub start : r.start ≡ b.site.start + b.used
  pub len : r.len ≡ n

-- what an update has once it has run, by the note that it asked for: the right to the bytes that it took
abbrev pub bytes_gained : {E : Type 0} → (E → LentBucket) → (E → ℕ) → List E → Fml
bytes_gained bucket bytes [] = ftrue
bytes_gained bucket bytes (e ∷ es) = next_bytes (bucket e) (bytes e)
