-- A name that a thread interned.
use Rattle.std.specs.Prelude.{◌≡◌, ℕ, Option}
use Rattle.lasso.specs.Texts.{Text}
use Rattle.lasso.specs.Notes.{history}
use Rattle.lasso.specs.Views.{InternerId, SnapshotView}
use Rattle.lasso.specs.CallerLaws.{HasKey}

-- what was seen is of this interner, and there the key is the name's
abbrev pub IsFind : {K : Type 0} → (ℕ → Option K) → InternerId → Text → SnapshotView → K → Type 0
IsFind key_at of name known key = (known.of ≡ of) × HasKey key_at of.opening (history known.notes) name key
