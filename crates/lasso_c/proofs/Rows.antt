-- Rows of a column: texts and nulls.
--
-- A column without a bitmap has its texts as rows, so what is said of rows holds of these. A row that comes next is a text or a null,
-- and a null adds no text.
use Rattle.std.proofs.Common.{ℕ, zero, suc, ◌≡◌, ◌+◌, ◌≤◌, Bool, true, false, if◌then◌else◌, List, [], ◌∷◌, ◌++◌, length, take, slice_get, Option, Some, None, refl, ap, ◌∙◌, arith, length-append}
use Rattle.std.specs.List.{slice_range, concat}
use Rattle.std.proofs.lemmas.List.{take_more}
use Rattle.std.proofs.lemmas.List.Edits.{length-between}
use Rattle.std.proofs.lemmas.Option.{slice_get_within, get_or_from_slice_get}
use Rattle.std.proofs.lemmas.Bool.Decides.{nat_tests}
use Rattle.std.specs.Option.{unwrap_or}
use Rattle.lasso_parts.specs.Texts.{Text, position_of}
use Rattle.lasso_c.specs.Bitmap.{present_at}
use Rattle.lasso_parts.specs.Layout.{reach, texts_from, layout_texts, greatest_offset}
use Rattle.lasso_c.specs.Layout.{start_fault, text_fault, null_fault, row_fault, rows_fault, column_fault, rows_from, column_rows, with_row, present_texts, layout_fault}
use Rattle.lasso_c.specs.Encoding.{row_codes, codes_of, dictionary_of, column_outcome, encoding_outcome, rows_outcome}
use Rattle.lasso_c.specs.Decoding.{unless_faulty}
use Rattle.lasso_c.proofs.Layouts.{or_none}

-- the row that a text makes
abbrev pub row_of : Bool → Text → Option Text
row_of there text = if there then Some text else None

pub length-rows_from : (bits : List ℕ) (at : ℕ) (texts : List Text) → length (rows_from bits at texts) ≡ length texts
length-rows_from bits at [] = refl
length-rows_from bits at (text ∷ texts) = ap suc (length-rows_from bits (at + 1) texts)

pub length-rows : (bits bytes offsets : List ℕ) → length (column_rows bits bytes offsets) ≡ length (layout_texts bytes offsets)
length-rows bits bytes offsets = length-rows_from bits 0 (layout_texts bytes offsets)

rows_at : (bits : List ℕ) (first at : ℕ) (texts : List Text) (k : ℕ) (text : Text) → at ≡ first + k → slice_get texts k ≡ Some text → slice_get (rows_from bits first texts) k ≡ Some (row_of (present_at bits at) text)
rows_at bits first at [] k text same is = absurd (omega (arith, slice_get_within [] k text is))
rows_at bits first at (t ∷ texts) zero text same is =
    let here : first ≡ at = omega arith in
    let equal : t ≡ text = cc in
    ap (λ n. Some (row_of (present_at bits n) t)) here ∙ ap (λ (x : Text). Some (row_of (present_at bits at) x)) equal
rows_at bits first at (t ∷ texts) (suc k) text same is = rows_at bits (first + 1) at texts k text (omega arith) is

-- a row of a column is its text or a null
pub row_at : (bits bytes offsets : List ℕ) (at : ℕ) (text : Text) → slice_get (layout_texts bytes offsets) at ≡ Some text → slice_get (column_rows bits bytes offsets) at ≡ Some (row_of (present_at bits at) text)
row_at bits bytes offsets at text is = rows_at bits 0 at (layout_texts bytes offsets) at text (omega arith) is

pub take_row : (rows : List (Option Text)) (at : ℕ) (row : Option Text) → slice_get rows at ≡ Some row → take (at + 1) rows ≡ take at rows ++ row ∷ []
take_row rows at row is = take_more rows at None (slice_get_within rows at row is) ∙ ap (λ (r : Option Text). take at rows ++ r ∷ []) (get_or_from_slice_get rows at row None is)

with_row-append : (row : Option Text) (texts more : List Text) → with_row row (texts ++ more) ≡ with_row row texts ++ more
with_row-append None texts more = refl
with_row-append (Some text) texts more = refl

-- a row more at the end
pub present_push : (rows : List (Option Text)) (row : Option Text) → present_texts (rows ++ row ∷ []) ≡ present_texts rows ++ with_row row []
present_push [] row = refl
present_push (r ∷ rows) row = ap (λ (ts : List Text). with_row r ts) (present_push rows row) ∙ with_row-append r (present_texts rows) (with_row row [])

-- without a bitmap
pub plain_texts : (n at : ℕ) (texts : List Text) → present_texts (take n (rows_from [] at texts)) ≡ take n texts
plain_texts zero at texts = refl
plain_texts (suc n) at [] = refl
plain_texts (suc n) at (text ∷ texts) = ap (λ (ts : List Text). text ∷ ts) (plain_texts n (at + 1) texts)

pub plain_codes : (null n at : ℕ) (dictionary texts : List Text) → row_codes null dictionary (take n (rows_from [] at texts)) ≡ codes_of dictionary (take n texts)
plain_codes null zero at dictionary texts = refl
plain_codes null (suc n) at dictionary [] = refl
plain_codes null (suc n) at dictionary (text ∷ texts) = ap (λ cs. unwrap_or (position_of dictionary text) 0 ∷ cs) (plain_codes null n (at + 1) dictionary texts)

pub plain_all : (at : ℕ) (texts : List Text) → present_texts (rows_from [] at texts) ≡ texts
plain_all at [] = refl
plain_all at (text ∷ texts) = ap (λ (ts : List Text). text ∷ ts) (plain_all (at + 1) texts)

pub plain_all_codes : (null at : ℕ) (dictionary texts : List Text) → row_codes null dictionary (rows_from [] at texts) ≡ codes_of dictionary texts
plain_all_codes null at dictionary [] = refl
plain_all_codes null at dictionary (text ∷ texts) = ap (λ cs. unwrap_or (position_of dictionary text) 0 ∷ cs) (plain_all_codes null (at + 1) dictionary texts)

-- the rows of a good column have no more bytes than lie after its first offset
row_known : (there : Bool) (bytes : List ℕ) (at from to : ℕ) → (if there then text_fault greatest_offset bytes at from to else null_fault greatest_offset bytes at from to) ≡ None → (from ≤ to) × (to ≤ reach greatest_offset bytes)
row_known true bytes at from to good = (grind (arith, nat_tests), grind (arith, nat_tests))
row_known false bytes at from to good = (grind (arith, nat_tests), grind (arith, nat_tests))

row_bytes : (there : Bool) (text : Text) (texts : List Text) → length (concat (with_row (row_of there text) texts)) ≤ length text + length (concat texts)
row_bytes true text texts = omega (arith, length-append text (concat texts))
row_bytes false text texts = omega arith

bytes_from : (bits bytes : List ℕ) (k from : ℕ) (offsets : List ℕ) → from ≤ reach greatest_offset bytes → rows_fault greatest_offset bits bytes k from offsets ≡ None → from + length (concat (present_texts (rows_from bits k (texts_from bytes from offsets)))) ≤ reach greatest_offset bytes
bytes_from bits bytes k from [] within good = omega arith
bytes_from bits bytes k from (to ∷ offsets) within good =
    let both = or_none (row_fault greatest_offset bits bytes k from to) (rows_fault greatest_offset bits bytes (k + 1) to offsets) good in
    let known = row_known (present_at bits k) bytes k from to both.0 in
    let rest = bytes_from bits bytes (k + 1) to offsets known.1 both.1 in
    let long = length-between bytes from to (omega (arith, known.1)) in
    omega (arith, known.0, rest, long, row_bytes (present_at bits k) (slice_range bytes from to) (present_texts (rows_from bits (k + 1) (texts_from bytes to offsets))))

start_known : (bytes : List ℕ) (from : ℕ) → start_fault greatest_offset bytes from ≡ None → from ≤ reach greatest_offset bytes
start_known bytes from good = grind (arith, nat_tests)

pub small_rows : (bits bytes offsets : List ℕ) → column_fault greatest_offset bits bytes offsets ≡ None → length (concat (present_texts (column_rows bits bytes offsets))) ≤ greatest_offset
small_rows bits bytes [] good = omega arith
small_rows bits bytes (from ∷ offsets) good =
    let both = or_none (start_fault greatest_offset bytes from) (rows_fault greatest_offset bits bytes 0 from offsets) good in
    let all = bytes_from bits bytes 0 from offsets (start_known bytes from both.0) both.1 in
    omega arith

-- encoding a column without a bitmap is encoding its texts
pub plain_present : (bytes offsets : List ℕ) → present_texts (column_rows [] bytes offsets) ≡ layout_texts bytes offsets
plain_present bytes offsets = plain_all 0 (layout_texts bytes offsets)

pub plain_outcome : (bytes offsets : List ℕ) (codes dictionary_offsets dictionary_bytes : ℕ) → column_outcome [] bytes offsets codes dictionary_offsets dictionary_bytes ≡ encoding_outcome bytes offsets codes dictionary_offsets dictionary_bytes
plain_outcome bytes offsets codes dictionary_offsets dictionary_bytes =
    let texts = layout_texts bytes offsets in
    ap (λ n. unless_faulty (layout_fault greatest_offset bytes offsets) (rows_outcome n (present_texts (column_rows [] bytes offsets)) codes dictionary_offsets dictionary_bytes)) (length-rows [] bytes offsets)
    ∙ ap (λ (ts : List Text). unless_faulty (layout_fault greatest_offset bytes offsets) (rows_outcome (length texts) ts codes dictionary_offsets dictionary_bytes)) (plain_present bytes offsets)

pub plain_dictionary : (bytes offsets : List ℕ) → dictionary_of (present_texts (column_rows [] bytes offsets)) ≡ dictionary_of (layout_texts bytes offsets)
plain_dictionary bytes offsets = ap (λ (ts : List Text). dictionary_of ts) (plain_present bytes offsets)

pub plain_encoded : (bytes offsets : List ℕ) → row_codes 0 (dictionary_of (present_texts (column_rows [] bytes offsets))) (column_rows [] bytes offsets) ≡ codes_of (dictionary_of (layout_texts bytes offsets)) (layout_texts bytes offsets)
plain_encoded bytes offsets =
    ap (λ (d : List Text). row_codes 0 d (column_rows [] bytes offsets)) (plain_dictionary bytes offsets) ∙ plain_all_codes 0 0 (dictionary_of (layout_texts bytes offsets)) (layout_texts bytes offsets)
