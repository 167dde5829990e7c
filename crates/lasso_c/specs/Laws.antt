-- What decoding makes of what was encoded, and loading of what was saved.
use Rattle.std.specs.Prelude.{ℕ, ◌≡◌, ◌<◌, ◌≤◌, List, [], length, map, is_some, slice_get, unwrap_or, Option, None, Some, Ok}
use Rattle.std.specs.List.{concat, slice_index_or}
use Rattle.lasso_parts.specs.Texts.{Text, IsDistinct, position_of}
use Rattle.lasso_c.specs.Bitmap.{bitmap_of, code_bits, present_at}
use Rattle.lasso_parts.specs.Layout.{greatest_offset, layout_texts, offsets_from}
use Rattle.lasso_c.specs.Layout.{layout_fault, present_texts}
use Rattle.lasso_c.specs.Encoding.{with_all_new, dictionary_of, codes_of, row_codes, sizes_of}
use Rattle.lasso_c.specs.Decoding.{texts_named, rows_named, decoding_outcome}

-- what decoding makes of what was encoded: the texts again
pub record DecodesBack (dictionary texts : List Text) (codes : List ℕ) : Type 0 where
  -- no text stands twice in the dictionary
  pub distinct : IsDistinct dictionary
  -- the layout that is written of it has its texts
  pub stands : layout_texts (concat dictionary) (offsets_from 0 dictionary) ≡ dictionary
  -- the codes name the texts
  pub named : texts_named dictionary codes ≡ texts
  -- decoding them is done if there is room
  pub done : (offsets bytes : ℕ) → length texts < offsets → length (concat texts) ≤ bytes → decoding_outcome (concat dictionary) (offsets_from 0 dictionary) codes offsets bytes ≡ Ok (sizes_of texts)

-- decoding what encoding writes of a layout with which nothing is wrong gives its texts
abbrev pub DecodingUndoesEncoding : Type 0
DecodingUndoesEncoding = (bytes offsets : List ℕ) → layout_fault greatest_offset bytes offsets ≡ None →
    let texts = layout_texts bytes offsets in
    let dictionary = dictionary_of texts in
    DecodesBack dictionary texts (codes_of dictionary texts)

-- what loading makes of what was saved: the texts again, with their codes
pub record LoadsBack (texts : List Text) : Type 0 where
  -- the layout that is written of the texts has them
  pub saved : layout_texts (concat texts) (offsets_from 0 texts) ≡ texts
  -- a new interner that interns them has them in this order
  pub loaded : with_all_new [] texts ≡ texts
  -- and gives each the code that it had
  pub coded : (code : ℕ) (text : Text) → slice_get texts code ≡ Some text → position_of texts text ≡ Some code

-- an interner's texts, saved and loaded, have the same codes again
abbrev pub LoadingUndoesSaving : Type 0
LoadingUndoesSaving = (texts : List Text) → IsDistinct texts → LoadsBack texts

-- what decoding makes of rows that were encoded: the rows again, with their nulls
pub record RowsComeBack (null : ℕ) (rows : List (Option Text)) (dictionary : List Text) (codes : List ℕ) : Type 0 where
  -- the codes name the texts, and an empty one for each null
  pub named : rows_named (Some null) dictionary codes ≡ map (λ (row : Option Text). unwrap_or row []) rows
  -- the bitmap that is written says which rows are texts
  pub present : (at : ℕ) → at < length rows → present_at (bitmap_of (code_bits null codes)) at ≡ is_some (slice_index_or rows at None)

-- decoding what encoding writes of rows gives the rows, where the code of nulls is none of the dictionary's
abbrev pub DecodingGivesNullsBack : Type 0
DecodingGivesNullsBack = (null : ℕ) (rows : List (Option Text)) →
    let dictionary = dictionary_of (present_texts rows) in
    length dictionary ≤ null → RowsComeBack null rows dictionary (row_codes null dictionary rows)
