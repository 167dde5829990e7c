-- What is known of fingerprints that a search passes over.
use Rattle.std.specs.Prelude.{◌≢◌, ℕ, ◌<◌, ◌≤◌, List, slice_index_or}

-- no fingerprint from the first index up to the last, which is not among them, is that of an empty slot or the one given
abbrev pub AreOthers : List ℕ → ℕ → ℕ → ℕ → Type 0
AreOthers fingerprints fingerprint from to = (j : ℕ) → from ≤ j → j < to → (slice_index_or fingerprints j 0 ≢ 0) × (slice_index_or fingerprints j 0 ≢ fingerprint)
