-- What is wrong with a layout, its rows, and how it is written. A column is a layout and a bitmap. Its rows are
-- texts and nulls.
--
-- The definitions of faults take the greatest offset of the offsets' width first; all else is one for both widths.
use Rattle.std.specs.Prelude.{◌≡◌, ℕ, ◌+◌, ◌≤◌, List, [], ◌∷◌, ◌++◌, length, take, drop, is_ok, nat_lt, if◌then◌else◌, Option, Some, None, Result}
use Rattle.std.specs.List.{concat, slice_range}
use Rattle.std.specs.Option.{option_or}
use Rattle.std.specs.Str.{is_utf8}
use Rattle.lasso_parts.specs.Layout.{reach, layout_texts, offsets_from}
use Rattle.lasso_parts.specs.Texts.{Text}
use Rattle.lasso_c.specs.Bitmap.{present_at}
use Rattle.lasso_c.specs.declared.error.CallError.{CallError}
use Rattle.lasso_c.specs.declared.error.CallError.TheVariants.{OffsetsFall, OffsetPastBytes, NotUtf8}

-- what is wrong with the offset where the first text begins, or nothing
abbrev pub start_fault : ℕ → List ℕ → ℕ → Option CallError
start_fault greatest bytes from = if nat_lt (reach greatest bytes) from then Some (OffsetPastBytes 0) else None

-- what is wrong with the text of this number between two offsets, or nothing: its end lies before its
-- beginning, or past that reach, or its bytes are not UTF-8
abbrev pub text_fault : ℕ → List ℕ → ℕ → ℕ → ℕ → Option CallError
text_fault greatest bytes at from to =
    if nat_lt to from then Some (OffsetsFall at)
    else if nat_lt (reach greatest bytes) to then Some (OffsetPastBytes at)
    else if is_utf8 (slice_range bytes from to) then None
    else Some (NotUtf8 at)

-- the text is the one between two offsets, and nothing is wrong with it
abbrev pub IsTextBetween : ℕ → List ℕ → ℕ → ℕ → ℕ → Text → Type 0
IsTextBetween greatest bytes at from to text = (text ≡ slice_range bytes from to) × (from ≤ to) × (to ≤ reach greatest bytes) × (text_fault greatest bytes at from to ≡ None)

-- the same of a null, whose bytes may be any
abbrev pub null_fault : ℕ → List ℕ → ℕ → ℕ → ℕ → Option CallError
null_fault greatest bytes at from to =
    if nat_lt to from then Some (OffsetsFall at)
    else if nat_lt (reach greatest bytes) to then Some (OffsetPastBytes at)
    else None

-- what is wrong with the row of this number, which is a text or a null, or nothing
abbrev pub row_fault : ℕ → List ℕ → List ℕ → ℕ → ℕ → ℕ → Option CallError
row_fault greatest bits bytes at from to = if present_at bits at then text_fault greatest bytes at from to else null_fault greatest bytes at from to

-- what is wrong with the first wrong one of the rows between an offset and those after it, numbered from `at`
abbrev pub rows_fault : ℕ → List ℕ → List ℕ → ℕ → ℕ → List ℕ → Option CallError
rows_fault greatest bits bytes at from [] = None
rows_fault greatest bits bytes at from (to ∷ offsets) = option_or (row_fault greatest bits bytes at from to) (rows_fault greatest bits bytes (at + 1) to offsets)

-- what is first wrong with a buffer of these offsets and this bitmap, or nothing
abbrev pub column_fault : ℕ → List ℕ → List ℕ → List ℕ → Option CallError
column_fault greatest bits bytes [] = None
column_fault greatest bits bytes (from ∷ offsets) = option_or (start_fault greatest bytes from) (rows_fault greatest bits bytes 0 from offsets)

-- the same without a bitmap
abbrev pub texts_fault : ℕ → List ℕ → ℕ → ℕ → List ℕ → Option CallError
texts_fault greatest bytes at from offsets = rows_fault greatest [] bytes at from offsets

-- what is first wrong with a layout, a column without a bitmap, or nothing
abbrev pub layout_fault : ℕ → List ℕ → List ℕ → Option CallError
layout_fault greatest bytes offsets = column_fault greatest [] bytes offsets

-- the rows of texts, numbered from `at`: each a text, or a null
abbrev pub rows_from : List ℕ → ℕ → List Text → List (Option Text)
rows_from bits at [] = []
rows_from bits at (text ∷ texts) = (if present_at bits at then Some text else None) ∷ rows_from bits (at + 1) texts

-- the rows of a buffer with these offsets and this bitmap
abbrev pub column_rows : List ℕ → List ℕ → List ℕ → List (Option Text)
column_rows bits bytes offsets = rows_from bits 0 (layout_texts bytes offsets)

-- a row before some texts; a null is no text
abbrev pub with_row : Option Text → List Text → List Text
with_row None texts = texts
with_row (Some text) texts = text ∷ texts

-- the texts of rows, without the nulls
abbrev pub present_texts : List (Option Text) → List Text
present_texts [] = []
present_texts (row ∷ rows) = with_row row (present_texts rows)

-- the texts of a column, without the nulls
abbrev pub column_texts : List ℕ → List ℕ → List ℕ → List Text
column_texts bits bytes offsets = present_texts (column_rows bits bytes offsets)

-- the first texts of a layout, this number of them
abbrev pub first_texts : ℕ → List ℕ → List ℕ → List Text
first_texts count bytes offsets = take count (layout_texts bytes offsets)

-- the same of the rows of a column
abbrev pub first_rows : ℕ → List ℕ → List ℕ → List ℕ → List (Option Text)
first_rows count bits bytes offsets = take count (column_rows bits bytes offsets)

-- a buffer once this is written over its front: so are the bytes of a layout, and its offsets
-- (`offsets_from 0`)
abbrev pub over : List ℕ → List ℕ → List ℕ
over front buffer = front ++ drop (length front) buffer

-- a buffer once this is written from a position on
abbrev pub over_from : ℕ → List ℕ → List ℕ → List ℕ
over_from start part buffer = take start buffer ++ (part ++ drop (start + length part) buffer)

-- a buffer once the bytes of the texts' layout are written over its front
abbrev pub bytes_over : List Text → List ℕ → List ℕ
bytes_over texts buffer = over (concat texts) buffer

-- a buffer once the offsets of the texts' layout are written over its front
abbrev pub offsets_over : List Text → List ℕ → List ℕ
offsets_over texts buffer = over (offsets_from 0 texts) buffer

-- a buffer once this is written over its front, or as it was if the call was refused
abbrev pub over_if_done : {X E : Type 0} → Result X E → List ℕ → List ℕ → List ℕ
over_if_done result front buffer = if is_ok result then over front buffer else buffer

-- as much of the text as the buffer has room for is written over its front, and `whole` is the text's length
abbrev pub CopiesFront : Text → (whole : ℕ) → (before after : List ℕ) → Type 0
CopiesFront text whole before after = (whole ≡ length text) × (after ≡ over (take (length before) text) before)
