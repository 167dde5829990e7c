-- What encoding answers and writes.
use Rattle.std.specs.Prelude.{ℕ, ◌*◌, Option, None, Some, List, [], ◌∷◌, ◌++◌, length, map, is_some, unwrap_or, nat_lt, if◌then◌else◌, Result, Err}
use Rattle.std.specs.List.{concat}
use Rattle.lasso_parts.specs.Texts.{Text, position_of}
use Rattle.lasso_c.specs.Bitmap.{bits_fit}
use Rattle.lasso_parts.specs.Layout.{greatest_offset, layout_texts}
use Rattle.lasso_c.specs.Layout.{layout_fault, column_fault, column_rows, present_texts}
use Rattle.lasso_c.specs.Decoding.{fitting, unless_faulty}
use Rattle.lasso_c.specs.declared.error.Sizes.{Sizes}
use Rattle.lasso_c.specs.declared.error.CallError.{CallError}
use Rattle.lasso_c.specs.declared.error.CallError.TheVariants.{CodesTooShort, BitmapTooShort, LimitReached, NoCodeLeft, NoMemory}

-- the list with the text last, unless it is there
abbrev pub with_new : List Text → Text → List Text
with_new texts text = if is_some (position_of texts text) then texts else texts ++ text ∷ []

-- the list once each of these texts is put last that is not there
abbrev pub with_all_new : List Text → List Text → List Text
with_all_new texts [] = texts
with_all_new texts (text ∷ more) = with_all_new (with_new texts text) more

-- the dictionary of some texts: each distinct one once, in order of first occurrence. It is the list of an
-- interner that has interned them, so a text's code is its position in the dictionary
abbrev pub dictionary_of : List Text → List Text
dictionary_of texts = with_all_new [] texts

-- the position of each of these texts in the dictionary, and the given code for an absent one
abbrev pub codes_or : ℕ → List Text → List Text → List ℕ
codes_or absent dictionary texts = map (λ text. unwrap_or (position_of dictionary text) absent) texts

-- the same if no text is absent
abbrev pub codes_of : List Text → List Text → List ℕ
codes_of dictionary texts = codes_or 0 dictionary texts

-- the code of a row in the dictionary: the given one for a null
abbrev pub row_code : ℕ → List Text → Option Text → ℕ
row_code null dictionary None = null
row_code null dictionary (Some text) = unwrap_or (position_of dictionary text) 0

-- the codes of rows
abbrev pub row_codes : ℕ → List Text → List (Option Text) → List ℕ
row_codes null dictionary rows = map (λ row. row_code null dictionary row) rows

-- the sizes of texts: how many they are, and their bytes
abbrev pub sizes_of : List Text → Sizes
sizes_of texts = record { texts = length texts; bytes = length (concat texts) }

-- how encoding this number of rows, whose texts these are, ends if nothing is wrong with them and memory is
-- found, with room for these numbers of codes, offsets and bytes
abbrev pub rows_outcome : ℕ → List Text → ℕ → ℕ → ℕ → Result Sizes CallError
rows_outcome rows texts codes dictionary_offsets dictionary_bytes =
    let sizes = sizes_of (dictionary_of texts) in
    if nat_lt codes rows then Err (CodesTooShort sizes) else fitting sizes dictionary_offsets dictionary_bytes

-- how encoding the texts of that layout ends if memory is found, with room for these numbers of codes,
-- offsets and bytes: with the sizes of the dictionary, or refused for the first of these: what is first wrong
-- with the layout, too few codes, offsets or bytes
abbrev pub encoding_outcome : List ℕ → List ℕ → ℕ → ℕ → ℕ → Result Sizes CallError
encoding_outcome bytes offsets codes dictionary_offsets dictionary_bytes =
    let texts = layout_texts bytes offsets in
    unless_faulty (layout_fault greatest_offset bytes offsets) (rows_outcome (length texts) texts codes dictionary_offsets dictionary_bytes)

-- why a column with this bitmap is refused, or nothing: a bitmap that has bits, but not one for each row, or
-- else what is first wrong with the column
abbrev pub column_refusal : List ℕ → List ℕ → List ℕ → Option CallError
column_refusal bits bytes offsets =
    if bits_fit bits (length (layout_texts bytes offsets)) then column_fault greatest_offset bits bytes offsets
    else Some (BitmapTooShort (8 * length bits))

-- how encoding a column with this bitmap ends, in the same way
abbrev pub column_outcome : List ℕ → List ℕ → List ℕ → ℕ → ℕ → ℕ → Result Sizes CallError
column_outcome bits bytes offsets codes dictionary_offsets dictionary_bytes =
    let rows = column_rows bits bytes offsets in
    unless_faulty (column_refusal bits bytes offsets) (rows_outcome (length rows) (present_texts rows) codes dictionary_offsets dictionary_bytes)

-- how encoding the texts of that layout ends, with room for what these buffers hold
abbrev pub encoding_into : List ℕ → List ℕ → (codes dictionary_offsets dictionary_bytes : List ℕ) → Result Sizes CallError
encoding_into bytes offsets codes dictionary_offsets dictionary_bytes =
    encoding_outcome bytes offsets (length codes) (length dictionary_offsets) (length dictionary_bytes)

-- the same of a column with this bitmap
abbrev pub column_encoding_into : List ℕ → List ℕ → List ℕ → (codes dictionary_offsets dictionary_bytes : List ℕ) → Result Sizes CallError
column_encoding_into bits bytes offsets codes dictionary_offsets dictionary_bytes =
    column_outcome bits bytes offsets (length codes) (length dictionary_offsets) (length dictionary_bytes)

-- out of memory in place of a refusal by an interner
abbrev pub of_column : CallError → CallError
of_column (LimitReached _) = NoMemory
of_column (NoCodeLeft _) = NoMemory
of_column refusal = refusal
