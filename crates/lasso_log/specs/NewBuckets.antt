-- What is done with a bucket that no history has yet: bytes of it are taken, and a history gets it.
use Rattle.std.specs.Prelude.{◌≡◌, ℕ, ◌+◌}
use Rattle.lasso_log.specs.LentBuckets.{LentBucket}
use Rattle.lasso_log.specs.Pieces.{RangeView}
use Rattle.lasso_log.specs.SharedBuckets.{SharedView}
use Rattle.lasso_log.specs.Views.{InternerId}

-- the range is the next n bytes of the bucket
abbrev pub IsNextOf : LentBucket → ℕ → RangeView → Type 0
IsNextOf b n r = (r.era ≡ b.site.era) × (r.block ≡ b.site.block) × (r.start ≡ b.site.start + b.used) × (r.len ≡ n)

-- n more bytes of the bucket are taken
abbrev pub TakesNext : (before after : LentBucket) → ℕ → Type 0
TakesNext before after n = (after.site ≡ before.site) × (after.size ≡ before.size) × (after.used ≡ before.used + n)

-- the shared bucket is where the new one b is and has its size, at this position of the interner's history
abbrev pub IsSharedAt : InternerId → (position : ℕ) → LentBucket → SharedView → Type 0
IsSharedAt of position b s = (s.of ≡ of) × (s.position ≡ position) × (s.site ≡ b.site) × (s.size ≡ b.size)

-- the shared bucket is the new one b, at this position of the interner's history; `base` of its bytes were taken before
abbrev pub IsSharedAs : InternerId → (position : ℕ) → LentBucket → (base : ℕ) → SharedView → Type 0
IsSharedAs of position b base s = (s.of ≡ of) × (s.position ≡ position) × (s.site ≡ b.site) × (s.size ≡ b.size) × (s.base ≡ base)
