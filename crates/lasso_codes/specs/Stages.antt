-- How far a run over lines or entries has come.
use Rattle.std.specs.Prelude.{ℕ, ◌≡◌, ◌+◌, ◌^◌, ◌<◌, ◌⊎◌, Bool, true, false, List, [], ◌∷◌, ◌++◌, length, drop, map, flat_map, All, Option, Some, Ok, Err}
use Rattle.hex.specs.Hex.{IsBytes}
use Rattle.lasso_parts.specs.Texts.{Text, position_of}
use Rattle.lasso_single.specs.Codes.{AreCodes}
use Rattle.lasso_single.specs.Filling.{extend}
use Rattle.lasso_single.specs.Interner.{InternerView, made_with}
use Rattle.lasso_single.specs.Coding.{spur_at}
use Rattle.lasso_input.specs.Lines.{lines_of}
use Rattle.lasso_input.specs.Texts.{line_of, text_of}
use Rattle.lasso_columns.specs.Counts.{AreCounts}
use Rattle.lasso_columns.specs.Rows.{is_null, texts_of}
use Rattle.lasso_codes.specs.Columns.{entry_at}
use Rattle.lasso_codes.specs.Counts.{CountingError}
use Rattle.lasso_codes.specs.Decode.{fed_lines, DecodingError}
use Rattle.lasso_codes.specs.Distinct.{distinct_report, with_feed, DistinctEnd}
use Rattle.lasso_codes.specs.Encode.{EncodingError}
use Rattle.lasso_codes.specs.Limits.{line_texts, AreLetIn}
use Rattle.lasso_codes.specs.Merge.{recoded, EntriesError}
use Rattle.lasso_codes.specs.Reading.{Makes, entry_items, items_from, texts_from, TextsError}
use Rattle.lasso_codes.specs.Streams.{Writes}
use Rattle.lasso_codes.specs.declared.reading.Header.{Header}
use Rattle.lasso_codes.specs.declared.error.RunError.{RunError}

-- these lines were read and are let in. The rest is left, and its first line has this number
pub record Taken (input rest : List ℕ) (only : Bool) (number : ℕ) (done : List Text) : Type 0 where
  pub split : lines_of input ≡ done ++ lines_of rest
  pub let_in : AreLetIn only done
  pub counted : length done + 1 ≡ number

-- these lines were read, interned and counted
pub record Counting (input rest : List ℕ) (only : Bool) (number : ℕ) (old now : InternerView) (counts : List ℕ) : Type 0 where
  pub done : List Text
  pub taken : Taken input rest only number done
  pub counted : AreCounts (line_texts done) now.texts counts
  pub list : extend spur_at old (line_texts done) (Ok tt) now

-- the lines of a stretch, of which the first has this number, were counted up to a position. `at` has the number of the
-- line there, and the position
abbrev pub CountsOn : Bool → (stretch : List ℕ) → (first : ℕ) → InternerView → List ℕ → (at : ℕ × ℕ) → InternerView → List ℕ → Type 0
CountsOn only stretch first old counts at new counts' =
    (input later : List ℕ) (start : InternerView) → Counting input (stretch ++ later) only first start old counts
    → Counting input (drop at.1 stretch ++ later) only at.0 start new counts'

-- why the lines of a stretch were not all counted
abbrev pub StopsCounting : Bool → (stretch : List ℕ) → (first : ℕ) → InternerView → List ℕ → RunError → Type 0
StopsCounting only stretch first old counts error =
    (input later : List ℕ) (limit : ℕ) (after : Option (List ℕ)) → Counting input (stretch ++ later) only first (made_with 4096 limit) old counts
    → CountingError only limit (lines_of input) after error

-- these lines were read and interned, and the part is their report. What was read is these lines with their
-- line feeds, unless nothing is left
pub record OnTheWay (input : List ℕ) (only : Bool) (limit : ℕ) (rest : List ℕ) (number : ℕ) (now : InternerView) (part : List ℕ) : Type 0 where
  pub done : List Text
  pub taken : Taken input rest only number done
  pub list : extend spur_at (made_with 4096 limit) (line_texts done) (Ok tt) now
  pub part_is : part ≡ distinct_report done
  pub fed : (input ≡ flat_map with_feed done ++ rest) ⊎ (rest ≡ [])

-- the lines of a stretch, of which the first has this number, were interned up to a position, and the new ones written. `at`
-- has the number of the line there, and the position
abbrev pub PassesOn : Bool → (stretch : List ℕ) → (first : ℕ) → InternerView → Option (List ℕ) → (at : ℕ × ℕ) → InternerView → Option (List ℕ) → Type 0
PassesOn only stretch first old written at new written' =
    (input later : List ℕ) (limit : ℕ) (before : Option (List ℕ)) → Writes before written (OnTheWay input only limit (stretch ++ later) first old)
    → Writes before written' (OnTheWay input only limit (drop at.1 stretch ++ later) at.0 new)

-- why the lines of a stretch were not all interned, or the new ones not all written
abbrev pub StopsPassing : Bool → (stretch : List ℕ) → (first : ℕ) → InternerView → Option (List ℕ) → Option (List ℕ) → RunError → Type 0
StopsPassing only stretch first old written written' error =
    (input later : List ℕ) (limit : ℕ) (before after : Option (List ℕ)) → Writes before written (OnTheWay input only limit (stretch ++ later) first old)
    → Writes before written' (λ part. DistinctEnd input only limit after part (Err error))

-- the number of a line: that of a null, or the position of its text, which is never that of a null
abbrev pub IsEntryAs : Bool → List Text → Text → ℕ → Type 0
IsEntryAs true list line number = number ≡ 4294967295
IsEntryAs false list line number = (position_of list (text_of line) ≡ Some number) × (number < 4294967295)

-- the numbers are those of the lines, in order
abbrev pub AreEntries : Option Text → List Text → List Text → List ℕ → Type 0
AreEntries null list [] [] = Unit {0}
AreEntries null list [] (n ∷ ns) = ⊥
AreEntries null list (l ∷ ls) [] = ⊥
AreEntries null list (l ∷ ls) (n ∷ ns) = IsEntryAs (is_null null l) list l n × AreEntries null list ls ns

-- these lines were read, and have these numbers
pub record Encoding (input rest : List ℕ) (only : Bool) (number : ℕ) (null : Option Text) (old now : InternerView) (numbers : List ℕ) : Type 0 where
  pub done : List Text
  pub taken : Taken input rest only number done
  pub entries : AreEntries null now.texts done numbers
  pub list : extend spur_at old (line_texts (texts_of null done)) (Ok tt) now

-- the lines of a stretch, of which the first has this number, were numbered up to a position. `at` has the number of the
-- line there, and the position
abbrev pub EncodesOn : Bool → Option Text → (stretch : List ℕ) → (first : ℕ) → InternerView → List ℕ → (at : ℕ × ℕ) → InternerView → List ℕ → Type 0
EncodesOn only null stretch first old numbers at new numbers' =
    (input later : List ℕ) (start : InternerView) → Encoding input (stretch ++ later) only first null start old numbers
    → Encoding input (drop at.1 stretch ++ later) only at.0 null start new numbers'

-- why the lines of a stretch were not all numbered
abbrev pub StopsNumbering : Bool → Option Text → (stretch : List ℕ) → (first : ℕ) → InternerView → List ℕ → RunError → Type 0
StopsNumbering only null stretch first old numbers error =
    (input later : List ℕ) (limit : ℕ) (after : Option (List ℕ)) → Encoding input (stretch ++ later) only first null (made_with 4096 limit) old numbers
    → EncodingError only limit null (lines_of input) after error

-- the lines of the first `count` entries of the bytes were written, and the rest is left
pub record LinesAhead (make : Makes Text) (binary : Bool) (bytes rest : List ℕ) (count : ℕ) (part : List ℕ) : Type 0 where
  pub done : List Text
  pub read : items_from make count binary 1 bytes ≡ (done, Ok rest)
  pub part_is : part ≡ fed_lines done

-- the lines of the entries of a stretch were written up to a position. `count` entries came before the stretch; `at` has
-- the number of those before the position, and the position
abbrev pub DecodesOn : Makes Text → Bool → (stretch : List ℕ) → (count : ℕ) → Option (List ℕ) → (at : ℕ × ℕ) → Option (List ℕ) → Type 0
DecodesOn make binary stretch count written at written' =
    (bytes later : List ℕ) (before : Option (List ℕ)) → Writes before written (LinesAhead make binary bytes (stretch ++ later) count)
    → Writes before written' (LinesAhead make binary bytes (drop at.1 stretch ++ later) at.0)

-- why the lines of the entries of a stretch of the column with this number were not all written
abbrev pub StopsDecoding : Makes Text → Header → (column : ℕ) → (stretch : List ℕ) → (count : ℕ) → Option (List ℕ) → Option (List ℕ) → RunError → Type 0
StopsDecoding make header column stretch count written written' error =
    (bytes later : List ℕ) (before : Option (List ℕ)) → Writes before written (LinesAhead make header.binary bytes (stretch ++ later) count)
    → Writes before written' (λ part. DecodingError (entry_items make header bytes) column part error)

-- the numbers of the first `count` entries of the bytes were added, and the rest is left
pub record EntriesAhead (make : Makes (Option ℕ)) (binary : Bool) (bytes rest : List ℕ) (count : ℕ) (before numbers : List ℕ) : Type 0 where
  pub done : List (Option ℕ)
  pub read : items_from make count binary 1 bytes ≡ (done, Ok rest)
  pub numbers_are : map entry_at numbers ≡ map entry_at before ++ done

-- the numbers of the entries of a stretch were added up to a position. `count` entries came before the stretch; `at` has
-- the number of those before the position, and the position
abbrev pub AddsOn : (table : List ℕ) → Bool → (stretch : List ℕ) → (count : ℕ) → List ℕ → (at : ℕ × ℕ) → List ℕ → Type 0
AddsOn table binary stretch count numbers at numbers' =
    (list texts : List Text) → AreCodes list texts table → length list < 2 ^ 32 → (bytes later before : List ℕ)
    → EntriesAhead (recoded list texts) binary bytes (stretch ++ later) count before numbers
    → EntriesAhead (recoded list texts) binary bytes (drop at.1 stretch ++ later) at.0 before numbers'

-- why the numbers of the entries of a stretch of the column with this number were not all added
abbrev pub StopsAdding : (table : List ℕ) → Header → (column : ℕ) → (stretch : List ℕ) → (count : ℕ) → List ℕ → RunError → Type 0
StopsAdding table header column stretch count numbers error =
    (list texts : List Text) → AreCodes list texts table → length list < 2 ^ 32 → (bytes later before : List ℕ)
    → EntriesAhead (recoded list texts) header.binary bytes (stretch ++ later) count before numbers
    → EntriesError (entry_items (recoded list texts) header bytes) column error

-- these lines were read and their texts interned, and the rest is left
pub record Reading (only : Bool) (bytes rest : List ℕ) (position : ℕ) (now : InternerView) : Type 0 where
  pub done : List (List ℕ)
  pub read : texts_from only position [] bytes ≡ Ok (done, rest)
  pub are_bytes : All IsBytes done
  pub texts : now.texts ≡ line_texts done
  pub counted : length done ≡ position

-- the texts of a stretch were read up to a position. `count` texts came before the stretch; `at` has the number of those
-- before the position, and the position
abbrev pub ReadsOn : Bool → (stretch : List ℕ) → (count : ℕ) → InternerView → (at : ℕ × ℕ) → InternerView → Type 0
ReadsOn only stretch count old at new =
    (bytes later : List ℕ) → Reading only bytes (stretch ++ later) count old → Reading only bytes (drop at.1 stretch ++ later) at.0 new

-- why the texts of a stretch of the column with this number were not all read
abbrev pub StopsReading : Bool → (distinct column : ℕ) → (stretch : List ℕ) → (count : ℕ) → InternerView → RunError → Type 0
StopsReading only distinct column stretch count old error =
    (bytes later : List ℕ) (limit : ℕ) (after : Option (List ℕ)) → Reading only bytes (stretch ++ later) count old
    → extend spur_at (made_with 4096 limit) old.texts (Ok tt) old → TextsError only limit distinct column bytes after error
