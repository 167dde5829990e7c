-- The hashes of several texts.
use denote.Ref.{Bor}
use Rattle.std.specs.Prelude.{ℕ, ◌≡◌, ◌<◌, List, slice_index_or}
use Rattle.lasso_parts.specs.Texts.{Text}

-- these are the hashes of the first texts, `size` of them
abbrev pub AreHashes : (Text → ℕ) → List (Bor Text) → ℕ → List ℕ → Type 0
AreHashes hash_of texts size hashes = (i : ℕ) (d : Bor Text) → i < size → slice_index_or hashes i 0 ≡ hash_of (slice_index_or texts i d).now
