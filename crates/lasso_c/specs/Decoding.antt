-- What decoding answers and writes.
use Rattle.std.specs.Prelude.{ℕ, ◌+◌, ◌*◌, List, [], ◌∷◌, length, map, slice_get, unwrap_or, nat_eq, nat_le, nat_lt, if◌then◌else◌, Option, Some, None, Result, Ok, Err}
use Rattle.lasso_parts.specs.Texts.{Text}
use Rattle.lasso_parts.specs.Layout.{greatest_offset, layout_texts}
use Rattle.lasso_c.specs.Layout.{layout_fault}
use Rattle.lasso_c.specs.declared.error.Sizes.{Sizes}
use Rattle.lasso_c.specs.declared.error.CallError.{CallError}
use Rattle.lasso_c.specs.declared.error.CallError.TheVariants.{NoSuchCode, TooManyBytes, OffsetsTooShort, BytesTooShort, BitmapTooShort}

-- the text of a code: an empty one for the code of nulls, if there is one
abbrev pub text_of_code : Option ℕ → List Text → ℕ → Option Text
text_of_code None dictionary code = slice_get dictionary code
text_of_code (Some null) dictionary code = if nat_eq code null then Some [] else slice_get dictionary code

-- the texts that the codes name, if each names one
abbrev pub rows_named : Option ℕ → List Text → List ℕ → List Text
rows_named null dictionary codes = map (λ code. unwrap_or (text_of_code null dictionary code) []) codes

-- the same without nulls
abbrev pub texts_named : List Text → List ℕ → List Text
texts_named dictionary codes = rows_named None dictionary codes

-- the texts that the codes name in the dictionary of that layout
abbrev pub texts_decoded : List ℕ → List ℕ → List ℕ → List Text
texts_decoded dictionary_bytes dictionary_offsets codes = texts_named (layout_texts dictionary_bytes dictionary_offsets) codes

-- the same of a column with nulls: the code of nulls names an empty text
abbrev pub rows_decoded : ℕ → List ℕ → List ℕ → List ℕ → List Text
rows_decoded null dictionary_bytes dictionary_offsets codes = rows_named (Some null) (layout_texts dictionary_bytes dictionary_offsets) codes

-- what goes on from the sizes of some texts to those with the next code's text, or why that is refused
abbrev pub with_next : Sizes → Option Text → Result Sizes CallError
with_next sizes None = Err (NoSuchCode sizes.texts)
with_next sizes (Some text) =
    if nat_lt greatest_offset (sizes.bytes + length text) then Err (TooManyBytes sizes.texts)
    else Ok (record { texts = sizes.texts + 1; bytes = sizes.bytes + length text })

-- what follows from a result, or its refusal
abbrev pub unless_refused : {X Y E : Type 0} → Result X E → (X → Result Y E) → Result Y E
unless_refused (Ok x) next = next x
unless_refused (Err e) next = Err e

-- the sizes of some texts and then those of the codes, or why the first wrong code is refused
abbrev pub measured : Option ℕ → List Text → Sizes → List ℕ → Result Sizes CallError
measured null dictionary sizes [] = Ok sizes
measured null dictionary sizes (code ∷ codes) = unless_refused (with_next sizes (text_of_code null dictionary code)) (λ more. measured null dictionary more codes)

-- sizes that fit into these numbers of offsets and bytes, or which of them is too short
abbrev pub fitting : Sizes → ℕ → ℕ → Result Sizes CallError
fitting sizes offsets bytes =
    if nat_lt sizes.texts offsets then (if nat_lt bytes sizes.bytes then Err (BytesTooShort sizes) else Ok sizes)
    else Err (OffsetsTooShort sizes)

-- no text and no byte
abbrev pub nothing : Sizes
nothing = record { texts = 0; bytes = 0 }

-- a refusal for what is wrong with a layout, or else what follows
abbrev pub unless_faulty : Option CallError → Result Sizes CallError → Result Sizes CallError
unless_faulty None result = result
unless_faulty (Some refusal) result = Err refusal

-- how decoding the codes, one of which may be that of nulls, by the dictionary of that layout ends, with room
-- for these numbers of offsets and bytes: with the sizes of the texts that the codes name, or refused for the
-- first of these: what is first wrong with the layout, the first code that names no text or whose text takes
-- the bytes past `greatest_offset`, too few offsets or bytes
abbrev pub rows_decoding_outcome : Option ℕ → List ℕ → List ℕ → List ℕ → ℕ → ℕ → Result Sizes CallError
rows_decoding_outcome null dictionary_bytes dictionary_offsets codes offsets bytes =
    unless_faulty (layout_fault greatest_offset dictionary_bytes dictionary_offsets)
    (unless_refused (measured null (layout_texts dictionary_bytes dictionary_offsets) nothing codes) (λ sizes. fitting sizes offsets bytes))

-- the same without nulls
abbrev pub decoding_outcome : List ℕ → List ℕ → List ℕ → ℕ → ℕ → Result Sizes CallError
decoding_outcome dictionary_bytes dictionary_offsets codes offsets bytes = rows_decoding_outcome None dictionary_bytes dictionary_offsets codes offsets bytes

-- the same of a column with nulls: refused first for a bitmap with fewer bits than there are codes. The code
-- of nulls names an empty text, and its bit is 0
abbrev pub nulls_decoding_outcome : ℕ → List ℕ → List ℕ → List ℕ → ℕ → ℕ → ℕ → Result Sizes CallError
nulls_decoding_outcome null dictionary_bytes dictionary_offsets codes offsets bytes present =
    if nat_le (length codes) (8 * present) then rows_decoding_outcome (Some null) dictionary_bytes dictionary_offsets codes offsets bytes
    else Err (BitmapTooShort (8 * present))

-- how decoding without nulls ends, with room for what these buffers hold
abbrev pub decoding_into : List ℕ → List ℕ → List ℕ → (offsets bytes : List ℕ) → Result Sizes CallError
decoding_into dictionary_bytes dictionary_offsets codes offsets bytes = decoding_outcome dictionary_bytes dictionary_offsets codes (length offsets) (length bytes)

-- the same with nulls
abbrev pub nulls_decoding_into : ℕ → List ℕ → List ℕ → List ℕ → (offsets bytes present : List ℕ) → Result Sizes CallError
nulls_decoding_into null dictionary_bytes dictionary_offsets codes offsets bytes present =
    nulls_decoding_outcome null dictionary_bytes dictionary_offsets codes (length offsets) (length bytes) (length present)
