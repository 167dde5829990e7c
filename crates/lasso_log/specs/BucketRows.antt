-- The cells that the buckets of a list are in, in rows: each cell is for buckets of one interner.
use Rattle.std.specs.Prelude.{◌≡◌, ℕ, ◌<◌, List, [], ◌∷◌, length, slice_index_or}
use Rattle.boxcar.specs.Slot.{Named}
use Rattle.lasso_log.specs.Chunks.{chunk_length, first_number}

-- these numbers but the first
abbrev pub others : List ℕ → List ℕ
others [] = []
others (n ∷ ns) = ns

-- there are n cells, and each has this tag
abbrev pub AreTagged : List ℕ → ℕ → List Named → Type 0
AreTagged tag n cells = (length cells ≡ n) × ((cell : ℕ) (d : Named) → cell < n → (slice_index_or cells cell d).tag ≡ tag)

-- there are n cells for rows, and each is tagged with its number, and after it with this tag
abbrev pub AreRows : List ℕ → ℕ → List Named → Type 0
AreRows tag n cells = (length cells ≡ n) × ((row : ℕ) (d : Named) → row < n → (slice_index_or cells row d).tag ≡ row ∷ tag)

-- a row has as many cells as its number says, the first of these numbers; the others are the cells' tag
abbrev pub IsRow : List ℕ → List Named → Type 0
IsRow tag cells = AreTagged (others tag) (chunk_length (first_number tag)) cells
