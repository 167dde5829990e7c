-- Encoding a column by interning its rows into a new dictionary.
--
-- A column is refused as the batch is that interns it. What is wrong with a column is never what an interner refuses (`is_of_column`),
-- so the two can be told apart.
use Rattle.std.proofs.Common.{ℕ, ◌≡◌, ◌+◌, ◌-◌, ◌*◌, ◌≤◌, ◌⊎◌, inl, inr, Bool, true, false, nat_lt, if◌then◌else◌, List, [], ◌∷◌, ◌++◌, length, take, Option, Some, None, Result, Ok, Err, refl, ap, sym, subst, ◌∙◌, arith, append-nil}
use Rattle.std.specs.Option.{option_or}
use Rattle.std.specs.List.{concat}
use Rattle.std.proofs.lemmas.Bool.Decides.{nat_tests}
use Rattle.std.proofs.lemmas.List.{drop_all, take_all}
use Rattle.lasso_parts.specs.Texts.{Text}
use Rattle.lasso_parts.specs.declared.util.LassoError.{LassoError}
use Rattle.lasso_parts.specs.declared.util.LassoErrorKind.TheVariants.{MemoryLimitReached, KeySpaceExhaustion, FailedAllocation}
use Rattle.lasso_single.specs.Filling.{extend}
use Rattle.lasso_single.specs.Interner.{InternerView}
use Rattle.lasso_c.specs.Bitmap.{bits_fit, present_at}
use Rattle.lasso_parts.specs.Layout.{greatest_offset, layout_texts, greatest_offset}
use Rattle.lasso_c.specs.Layout.{start_fault, text_fault, null_fault, row_fault, rows_fault, column_fault, column_rows, over, present_texts}
use Rattle.lasso_c.specs.Decoding.{nothing}
use Rattle.lasso_c.specs.Encoding.{column_refusal, dictionary_of, of_column, row_codes, with_all_new}
use Rattle.lasso_c.specs.Interning.{key_of_code, InternsRoomed, InternsPart, refusal_at}
use Rattle.lasso_c.specs.declared.error.CallError.{CallError}
use Rattle.lasso_c.specs.declared.error.CallError.TheVariants.{CodesTooShort, BitmapTooShort, NoMemory}
use Rattle.lasso_c.proofs.BatchSteps.{length-row_codes}
use Rattle.lasso_c.proofs.Layouts.{length-layout_texts}
use Rattle.lasso_c.proofs.RoundTrip.{all_bytes}
use Rattle.lasso_c.proofs.Rows.{length-rows, small_rows}

of_interner : (at : ℕ) (error : LassoError) → of_column (refusal_at at error) ≡ NoMemory
of_interner at MemoryLimitReached = refl
of_interner at KeySpaceExhaustion = refl
of_interner at FailedAllocation = refl

is_of_start : (bytes : List ℕ) (from : ℕ) (refusal : CallError) → start_fault greatest_offset bytes from ≡ Some refusal → of_column refusal ≡ refusal
is_of_start bytes from refusal is = grind (arith, nat_tests)

is_of_text : (bytes : List ℕ) (at from to : ℕ) (refusal : CallError) → text_fault greatest_offset bytes at from to ≡ Some refusal → of_column refusal ≡ refusal
is_of_text bytes at from to refusal is = grind (arith, nat_tests)

is_of_null : (bytes : List ℕ) (at from to : ℕ) (refusal : CallError) → null_fault greatest_offset bytes at from to ≡ Some refusal → of_column refusal ≡ refusal
is_of_null bytes at from to refusal is = grind (arith, nat_tests)

is_of_row : (there : Bool) (bytes : List ℕ) (at from to : ℕ) (refusal : CallError) → (if there then text_fault greatest_offset bytes at from to else null_fault greatest_offset bytes at from to) ≡ Some refusal → of_column refusal ≡ refusal
is_of_row true bytes at from to refusal is = is_of_text bytes at from to refusal is
is_of_row false bytes at from to refusal is = is_of_null bytes at from to refusal is

or_some : (one other : Option CallError) (refusal : CallError) → option_or one other ≡ Some refusal → (one ≡ Some refusal) ⊎ (other ≡ Some refusal)
or_some None other refusal is = inr is
or_some (Some one) other refusal is = inl is

is_of_rows : (bits bytes : List ℕ) (at from : ℕ) (offsets : List ℕ) (refusal : CallError) → rows_fault greatest_offset bits bytes at from offsets ≡ Some refusal → of_column refusal ≡ refusal
is_of_rows bits bytes at from [] refusal is = let no : ◌≡◌ {A = Option CallError} None (Some refusal) = is in absurd cc
is_of_rows bits bytes at from (to ∷ offsets) refusal is =
    elim (or_some (row_fault greatest_offset bits bytes at from to) (rows_fault greatest_offset bits bytes (at + 1) to offsets) refusal is) [
      | inl w ↦ is_of_row (present_at bits at) bytes at from to refusal w
      | inr w ↦ is_of_rows bits bytes (at + 1) to offsets refusal w
    ]

is_of_column : (bits bytes offsets : List ℕ) (refusal : CallError) → column_fault greatest_offset bits bytes offsets ≡ Some refusal → of_column refusal ≡ refusal
is_of_column bits bytes [] refusal is = let no : ◌≡◌ {A = Option CallError} None (Some refusal) = is in absurd cc
is_of_column bits bytes (from ∷ offsets) refusal is =
    elim (or_some (start_fault greatest_offset bytes from) (rows_fault greatest_offset bits bytes 0 from offsets) refusal is) [
      | inl w ↦ is_of_start bytes from refusal w
      | inr w ↦ is_of_rows bits bytes 0 from offsets refusal w
    ]

ok_by : (short fits : Bool) (bits bytes offsets : List ℕ) (done : ℕ) (old new : InternerView) → InternsRoomed greatest_offset short fits bits bytes offsets done old (Ok tt) new → ((if fits then column_fault greatest_offset bits bytes offsets else Some (BitmapTooShort (8 * length bits))) ≡ None) × (done ≡ length (layout_texts bytes offsets))
ok_by true fits bits bytes offsets done old new h = let no : ◌≡◌ {A = Result (Unit {0}) CallError} (Ok tt) (Err (CodesTooShort nothing)) = h.1 in absurd cc
ok_by false false bits bytes offsets done old new h = let no : ◌≡◌ {A = Result (Unit {0}) CallError} (Ok tt) (Err (BitmapTooShort (8 * length bits))) = h.1 in absurd cc
ok_by false true bits bytes offsets done old new h = h.ends

err_by : (short fits : Bool) (bits bytes offsets : List ℕ) (done : ℕ) (old new : InternerView) (refusal : CallError) → short ≡ false → InternsRoomed greatest_offset short fits bits bytes offsets done old (Err refusal) new → ((if fits then column_fault greatest_offset bits bytes offsets else Some (BitmapTooShort (8 * length bits))) ≡ Some (of_column refusal)) ⊎ (of_column refusal ≡ NoMemory)
err_by true fits bits bytes offsets done old new refusal room h = absurd cc
err_by false false bits bytes offsets done old new refusal room h = let same : refusal ≡ BitmapTooShort (8 * length bits) = let e : ◌≡◌ {A = Result (Unit {0}) CallError} (Err refusal) (Err (BitmapTooShort (8 * length bits))) = h.1 in cc in inl (ap (λ r. Some (of_column r)) (sym same))
err_by false true bits bytes offsets done old new refusal room h =
    elim h.ends [
      | inl w ↦ inl (w.0 ∙ ap (λ r. Some r) (sym (is_of_column bits bytes offsets refusal w.0)))
      | inr w ↦ inr (ap (λ r. of_column r) w.1.2.2 ∙ of_interner done w.1.2.0)
    ]

-- how a batch ends that has room for a code of each row
pub part_ok : (room : ℕ) (bits bytes offsets : List ℕ) (done : ℕ) (old new : InternerView) → InternsPart greatest_offset room bits bytes offsets done old (Ok tt) new → (column_refusal bits bytes offsets ≡ None) × (done ≡ length (layout_texts bytes offsets))
part_ok room bits bytes offsets done old new h = ok_by (nat_lt room (length (layout_texts bytes offsets))) (bits_fit bits (length (layout_texts bytes offsets))) bits bytes offsets done old new h

pub part_err : (room : ℕ) (bits bytes offsets : List ℕ) (done : ℕ) (old new : InternerView) (refusal : CallError) → length (layout_texts bytes offsets) ≤ room → InternsPart greatest_offset room bits bytes offsets done old (Err refusal) new → (column_refusal bits bytes offsets ≡ Some (of_column refusal)) ⊎ (of_column refusal ≡ NoMemory)
part_err room bits bytes offsets done old new refusal enough h =
    err_by (nat_lt room (length (layout_texts bytes offsets))) (bits_fit bits (length (layout_texts bytes offsets))) bits bytes offsets done old new refusal (grind (arith, nat_tests)) h

list_by : (short fits : Bool) (bits bytes offsets : List ℕ) (done : ℕ) (old new : InternerView) → InternsRoomed greatest_offset short fits bits bytes offsets done old (Ok tt) new → extend {K = ℕ} key_of_code old (present_texts (take done (column_rows bits bytes offsets))) (Ok tt) new
list_by true fits bits bytes offsets done old new h = let no : ◌≡◌ {A = Result (Unit {0}) CallError} (Ok tt) (Err (CodesTooShort nothing)) = h.1 in absurd cc
list_by false false bits bytes offsets done old new h = let no : ◌≡◌ {A = Result (Unit {0}) CallError} (Ok tt) (Err (BitmapTooShort (8 * length bits))) = h.1 in absurd cc
list_by false true bits bytes offsets done old new h = h.before

-- the interner of a column that was interned as a whole
pub column_list : (room : ℕ) (bits bytes offsets : List ℕ) (done : ℕ) (old new : InternerView) → InternsPart greatest_offset room bits bytes offsets done old (Ok tt) new → extend {K = ℕ} key_of_code old (present_texts (column_rows bits bytes offsets)) (Ok tt) new
column_list room bits bytes offsets done old new h =
    let rows = column_rows bits bytes offsets in
    let part = part_ok room bits bytes offsets done old new h in
    let whole : take done rows ≡ rows = take_all done rows (omega (arith, part.1, length-rows bits bytes offsets)) in
    subst (λ (rs : List (Option Text)). extend {K = ℕ} key_of_code old (present_texts rs) (Ok tt) new) whole
    (list_by (nat_lt room (length (layout_texts bytes offsets))) (bits_fit bits (length (layout_texts bytes offsets))) bits bytes offsets done old new h)

-- where nothing is wrong with the rows, the bitmap has their bits
good_by : (fits : Bool) (fault : Option CallError) (at : ℕ) → (if fits then fault else Some (BitmapTooShort at)) ≡ None → fault ≡ None
good_by true fault at is = is
good_by false fault at is = let no : Some (BitmapTooShort at) ≡ None = is in absurd cc

pub refusal_none : (bits bytes offsets : List ℕ) → column_refusal bits bytes offsets ≡ None → column_fault greatest_offset bits bytes offsets ≡ None
refusal_none bits bytes offsets is = good_by (bits_fit bits (length (layout_texts bytes offsets))) (column_fault greatest_offset bits bytes offsets) (8 * length bits) is

-- what is written over the whole of a buffer
pub over_whole : (part buffer : List ℕ) → length part ≡ length buffer → over part buffer ≡ part
over_whole part buffer same = ap (λ (rest : List ℕ). part ++ rest) (drop_all (length part) buffer (omega arith)) ∙ append-nil part

-- a column is interned as a whole into a new dictionary
pub record ColumnDone (null : ℕ) (bits bytes offsets : List ℕ) (texts : List Text) (codes : List ℕ) : Type 0 where
  pub dictionary : texts ≡ dictionary_of (present_texts (column_rows bits bytes offsets))
  pub codes_of_rows : codes ≡ row_codes null (dictionary_of (present_texts (column_rows bits bytes offsets))) (column_rows bits bytes offsets)
  pub small : length (concat texts) ≤ greatest_offset

pub column_done : (null : ℕ) (bits bytes offsets first : List ℕ) (done : ℕ) (old new : InternerView) (codes : List ℕ) → old.texts ≡ [] → length first ≡ length offsets - 1 → InternsPart greatest_offset (length first) bits bytes offsets done old (Ok tt) new
    → new.texts ≡ with_all_new old.texts (present_texts (take done (column_rows bits bytes offsets))) → codes ≡ over (row_codes null new.texts (take done (column_rows bits bytes offsets))) first → ColumnDone null bits bytes offsets new.texts codes
column_done null bits bytes offsets first done old new codes empty room h grown written =
    let rows = column_rows bits bytes offsets in
    let part = part_ok (length first) bits bytes offsets done old new h in
    let count = length-rows bits bytes offsets in
    let whole : take done rows ≡ rows = take_all done rows (omega (arith, part.1, count)) in
    let dictionary : new.texts ≡ dictionary_of (present_texts rows) =
    grown ∙ ap (λ (ts : List Text). with_all_new ts (present_texts (take done rows))) empty ∙ ap (λ (rs : List (Option Text)). dictionary_of (present_texts rs)) whole in
    record {
      dictionary = dictionary;
      codes_of_rows = written ∙ ap (λ (rs : List (Option Text)). over (row_codes null new.texts rs) first) whole
          ∙ over_whole (row_codes null new.texts rows) first (omega (arith, length-row_codes null new.texts rows, count, length-layout_texts bytes offsets, room)) ∙ ap (λ (d : List Text). row_codes null d rows) dictionary;
      small = omega (arith, ap (λ (ts : List Text). length (concat ts)) dictionary, all_bytes [] (present_texts rows), small_rows bits bytes offsets (refusal_none bits bytes offsets part.0));
    }
