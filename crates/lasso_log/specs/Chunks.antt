-- Where the texts of a shared list are, and what a book keeps of them: that each cell below the length is
-- filled with its text. A cell holds one text and is filled once. Cells are in chunks. The names of an
-- interner are the number of its era and after it the names of the cells that its chunks are in.
use Rattle.std.specs.Prelude.{◌≡◌, ℕ, zero, suc, ◌+◌, ◌-◌, ◌*◌, ◌^◌, ◌<◌, ◌≤◌, List, [], ◌∷◌, ◌++◌, length, map, slice_index, slice_index_or, nat_lt, if◌then◌else◌}
use mathlib.Core.List.{IsPrefix}
use base.Fml.{Fml, ftrue, fex, fsep}
use denote.RattleType.{RattleType}
use Rattle.boxcar.specs.Slot.{written, Named}
use Rattle.lasso_parts.specs.Texts.{Text}

-- how many cells a chunk has: the first two have 32, and each later one has as many as all before it
abbrev pub chunk_length : ℕ → ℕ
chunk_length zero = 32
chunk_length (suc chunk) = 32 * 2 ^ chunk

-- the position of a chunk's first cell
abbrev pub chunk_start : ℕ → ℕ
chunk_start zero = 0
chunk_start (suc chunk) = 32 * 2 ^ chunk

-- the chunk of a position that is in this chunk or in one of the `more` chunks past it
abbrev pub chunk_from : ℕ → ℕ → ℕ → ℕ
chunk_from zero chunk position = chunk
chunk_from (suc more) chunk position = if nat_lt position (chunk_start (suc chunk)) then chunk else chunk_from more (suc chunk) position

-- the chunk of a position; its number is at most the position
abbrev pub chunk_of : ℕ → ℕ
chunk_of position = chunk_from position 0 position

-- the position is one of the sixteen from a length on
abbrev pub IsAhead : ℕ → ℕ → Type 0
IsAhead length position = (length ≤ position) × (position ≤ length + 15)

-- the sixteen positions from a length on are in one chunk with the position before them
abbrev pub SharesChunk : ℕ → Type 0
SharesChunk length = (0 < length) × (chunk_of length ≡ chunk_of (length - 1)) × (chunk_of (length + 15) ≡ chunk_of length)

-- how far after its chunk's first cell a position is
abbrev pub offset_of : ℕ → ℕ
offset_of position = position - chunk_start (chunk_of position)

-- the names of these cells
abbrev pub names_of : List Named → List ℕ
names_of cells = map (λ (c : Named). c.id) cells

-- the name of the cell at this position
abbrev pub name_at : List Named → ℕ → ℕ
name_at cells position = (slice_index_or cells position record { id = 0; tag = [] }).id

-- the first of these numbers, and 0 if there is none
abbrev pub first_number : List ℕ → ℕ
first_number [] = 0
first_number (n ∷ ns) = n

-- The first of an interner's names is the number of its era; the others are the names of the cells that its chunks are in.
abbrev pub era_named : List ℕ → ℕ
era_named names = first_number names

-- the name of the chunk of a position
abbrev pub chunk_named : List ℕ → ℕ → ℕ
chunk_named names position = slice_index names (suc (chunk_of position))

-- a chunk and a cell have the names of a position's; `cells` is what the chunk has
abbrev pub IsCellAt : List ℕ → ℕ → ℕ → List Named → ℕ → Type 0
IsCellAt names position chunk cells cell = (chunk ≡ chunk_named names position) × (cell ≡ name_at cells (offset_of position))

-- a chunk's cell is tagged with the chunk's number
abbrev pub IsNumbered : ℕ → List Named → Type 0
IsNumbered count cells = (length cells ≡ count) × ((chunk : ℕ) (d : Named) → chunk < count → (slice_index_or cells chunk d).tag ≡ chunk ∷ [])

-- V is a chunk, and `cells` what it has; R is what a cell holds, `meaning` its text, and `lasts` that the text is there as long as an era
module _ (V R : RattleType) (cells : V.Denot → List Named) (meaning : R.Denot → Text) (lasts : R.Denot → ℕ → Type 0) where
  -- a cell is filled with what stands for this text, which is there as long as the era
  abbrev pub held : ℕ → ℕ → Text → R.Denot → Fml
  held era cell text x = fsep (written R cell x) (fex ((meaning x ≡ text) × lasts x era) (λ _. ftrue))

  -- the cell holds this text, for good
  abbrev pub holds_text : ℕ → ℕ → Text → Fml
  holds_text era cell text = fex R.Denot (held era cell text)

  -- a chunk is made, and its cell at this offset holds this text
  abbrev pub in_chunk : ℕ → ℕ → ℕ → Text → V.Denot → Fml
  in_chunk era chunk offset text v = fsep (written V chunk v) (holds_text era (name_at (cells v) offset) text)

  -- the same of some chunk
  abbrev pub filled : ℕ → ℕ → ℕ → Text → Fml
  filled era chunk offset text = fex V.Denot (in_chunk era chunk offset text)

  -- these texts are from position n on, in the chunks with these names
  abbrev pub lined : List ℕ → ℕ → List Text → Fml
  lined names n [] = ftrue
  lined names n (text ∷ texts) = fsep (filled (era_named names) (chunk_named names n) (offset_of n) text) (lined names (suc n) texts)

-- a longer log has all the texts of a shorter one, in their positions
abbrev pub ListOnlyGrows : {E : Type 0} → (List E → List E) → (List E → List Text) → Type 0
ListOnlyGrows {E} shows texts = (before after : List E) → IsPrefix before after → IsPrefix (texts (shows before)) (texts (shows after))

-- an update puts its text last, at its position
abbrev pub PutsLastAt : {E : Type 0} → (List E → List Text) → ℕ → Text → List E → List E → Type 0
PutsLastAt texts position text before after = (texts after ≡ texts before ++ text ∷ []) × (length (texts before) ≡ position)
