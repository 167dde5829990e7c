-- What `encode` writes, and how it ends.
use Rattle.std.specs.Prelude.{ℕ, ◌≡◌, ◌+◌, ◌^◌, ◌<◌, ◌⊎◌, ◌++◌, All, Bool, true, false, List, [], ◌∷◌, length, map, take, Option, Some, Result, Ok, MatchResult, IfSome, Vec, slice_get}
use Rattle.hex.specs.Hex.{IsBytes}
use Rattle.lasso_parts.specs.Texts.{Text, position_of}
use Rattle.lasso_parts.specs.declared.util.LassoErrorKind.TheVariants.{FailedAllocation}
use Rattle.lasso_single.specs.Filling.{extend}
use Rattle.lasso_single.specs.Intern.{InternsIn}
use Rattle.lasso_single.specs.Interner.{InternerView, made_with}
use Rattle.lasso_single.specs.Coding.{spur_at, MayLackMemory}
use Rattle.lasso_input.specs.Lines.{lines_of}
use Rattle.lasso_input.specs.Texts.{is_own_text, text_of}
use Rattle.lasso_columns.specs.declared.faults.LineError.{LineError}
use Rattle.lasso_columns.specs.declared.faults.LineError.TheVariants.{Refused, NotText}
use Rattle.lasso_columns.specs.Rows.{is_null, texts_of, EncodesRows, StopsAtRow}
use Rattle.lasso_columns.specs.Streams.{AreUnread}
use Rattle.lasso_columns.specs.Texts.{texts_by}
use Rattle.lasso_columns.specs.declared.line_texts.LineTexts.TheVariants.{OfBytes}
use Rattle.lasso_codes.specs.Columns.{dictionary_of, entry_of, entry_at, column_bytes}
use Rattle.lasso_codes.specs.Errors.{AreTooMany, IsReadError}
use Rattle.lasso_codes.specs.Limits.{line_texts, Admits, AreLetIn, IsLetIn, IsLineFault, IsNextError, LacksMemory}
use Rattle.lasso_codes.specs.Streams.{Begins, FailsAfter}
use Rattle.lasso_codes.specs.declared.arguments.Settings.{Settings}
use Rattle.lasso_codes.specs.declared.error.RunError.{RunError}
use Rattle.lasso_codes.specs.declared.error.RunError.TheVariants.{Line, TooManyLines, ReadFailed, WriteFailed, ReaderGone, Column}

-- the number of a line. A null changes nothing. The text of another line is interned, and its code is the number
abbrev pub IsNumberedAs : Bool → InternerView → Text → InternerView → ℕ → Type 0
IsNumberedAs true old line new number = (new ≡ old) × (number ≡ 4294967295)
IsNumberedAs false old line new number =
    ((key : ℕ) × InternsIn {K = ℕ} spur_at old (text_of line) (Ok key) new) × (position_of new.texts (text_of line) ≡ Some number) × (number < 4294967295)

-- the line has this number
abbrev pub IsNumbered : Option Text → InternerView → Text → InternerView → ℕ → Type 0
IsNumbered null old line new number = IsNumberedAs (is_null null line) old line new number

-- the list has the texts of the dictionary of the lines, the numbers are those of their entries, and each text has a
-- code
abbrev pub AreNumbered : Option Text → List Text → List Text → List ℕ → Type 0
AreNumbered null lines list numbers =
    (list ≡ line_texts (dictionary_of null lines)) × (map entry_at numbers ≡ map (entry_of null (dictionary_of null lines)) lines) × (length list < 2 ^ 32)

-- the lines are let in, and these are their numbers
abbrev pub NumbersLines : Bool → Option Text → (lines list : List Text) → (numbers : List ℕ) → Type 0
NumbersLines only null lines list numbers = AreLetIn only lines × AreNumbered null lines list numbers

-- the line is let in, and its number was added
abbrev pub AddsNumber : Bool → Option Text → InternerView → Text → InternerView → List ℕ → List ℕ → Type 0
AddsNumber only null old line new before after = IsLetIn only line × ((entry : ℕ) × IsNumbered null old line new entry × (after ≡ before ++ entry ∷ []))

-- a refused line is no null. Only memory may run out for the number of a null
abbrev pub IsNoNull : Option Text → Text → LineError → Type 0
IsNoNull null line (Refused number error) = (error ≡ FailedAllocation) ⊎ (is_null null line ≡ false)
IsNoNull null line (NotText number) = Unit {0}

-- why the line of this number has no entry
abbrev pub IsEntryFault : Bool → Option Text → InternerView → Text → ℕ → LineError → Type 0
IsEntryFault only null now line number error = IsLineFault only now line number error × LacksMemory now line error × IsNoNull null line error

-- when memory may run out for the entry of a line, with these entries so far: as for its text; or if the line is not its
-- own text
abbrev pub EntryMayLackMemory : {A : Type 0} → InternerView → Vec ℕ A → Text → LineError → Type 0
EntryMayLackMemory now entries line (Refused number error) = MayLackMemory now entries (text_of line) error ⊎ (is_own_text line ≡ false)
EntryMayLackMemory now entries line (NotText number) = Unit {0}

-- the first n lines are let in and were encoded with this limit, and the next line was not. Line 0: out of
-- memory outside of a line, and n is 0
abbrev pub IsEncodeError : Bool → ℕ → Option Text → List Text → ℕ → LineError → Type 0
IsEncodeError only limit null lines n error =
    ((error ≡ Refused 0 FailedAllocation) × (n ≡ 0))
    ⊎ (AreLetIn only (take n lines)
    × ((now : InternerView) × extend spur_at (made_with 4096 limit) (line_texts (texts_of null (take n lines))) (Ok tt) now × IsNextError only now lines n error)
    × IfSome (slice_get lines n) (λ line. IsNoNull null line error))

-- why lines were not encoded, and what is left of the input then. If a read failed, all lines that were read as a whole
-- were encoded
abbrev pub EncodingError : Bool → ℕ → Option Text → List Text → Option (List ℕ) → RunError → Type 0
EncodingError only limit null lines after (Line error) = (n : ℕ) × IsEncodeError only limit null lines n error
EncodingError only limit null lines after TooManyLines = AreTooMany (length lines)
EncodingError only limit null lines after ReadFailed =
    (n : ℕ) × AreLetIn only (take n lines) × Admits limit (line_texts (texts_of null (take n lines))) × FailsAfter lines n after
EncodingError only limit null lines after WriteFailed = ⊥
EncodingError only limit null lines after ReaderGone = ⊥
EncodingError only limit null lines after (Column column error) = ⊥

-- why the lines of a stream were not all encoded, by their texts: one of the first lines has this fault; or the first
-- lines were all encoded, and a read failed or there was no memory. After a failed read the other lines are unread
abbrev pub StopsEncoding : {A : Type 0} → Bool → Option Text → InternerView → List Text → List ℕ → InternerView → Vec ℕ A → Option (List ℕ) → RunError → Type 0
StopsEncoding only null old lines before new after left error =
    (first : List Text) × (rest : List Text) × (lines ≡ first ++ rest) × All IsBytes first
    × (((fault : LineError) × (error ≡ Line fault) × StopsAtRow null old (texts_by (OfBytes only) first) before new after fault)
    ⊎ (EncodesRows null old (texts_by (OfBytes only) first) [] before new after.items × IsReadError (length after.items + 1) error × (error ≡ ReadFailed → AreUnread left rest)))

-- how a run ends with an error after it has written the part, and what is left of the input then. Nothing was written
-- unless all lines were encoded
abbrev pub EncodeError : Bool → ℕ → Option Text → Bool → List Text → Option (List ℕ) → List ℕ → RunError → Type 0
EncodeError only limit null binary lines after part (Line error) = (part ≡ []) × EncodingError only limit null lines after (Line error)
EncodeError only limit null binary lines after part TooManyLines = (part ≡ []) × EncodingError only limit null lines after TooManyLines
EncodeError only limit null binary lines after part ReadFailed = (part ≡ []) × EncodingError only limit null lines after ReadFailed
EncodeError only limit null binary lines after part WriteFailed = Begins part (column_bytes binary null lines)
EncodeError only limit null binary lines after part ReaderGone = Begins part (column_bytes binary null lines)
EncodeError only limit null binary lines after part (Column column error) = ⊥

-- the codes and the number of lines fit into a column
abbrev pub AreCodable : Option Text → List Text → Type 0
AreCodable null lines = (length (dictionary_of null lines) < 2 ^ 32) × (length lines < 2 ^ 64)

-- how a run of `encode` ends: without an error, all lines are let in, a new interner with this limit takes the texts
-- of those that are no nulls, and the part is their column
abbrev pub EncodeEnd : List ℕ → Bool → ℕ → Option Text → Bool → Option (List ℕ) → List ℕ → Result (Unit {0}) RunError → Type 0
EncodeEnd input only limit null binary after part result =
    MatchResult result
    (λ _. AreLetIn only (lines_of input) × (part ≡ column_bytes binary null (lines_of input)) × AreCodable null (lines_of input)
    × Admits limit (line_texts (texts_of null (lines_of input))))
    (EncodeError only limit null binary (lines_of input) after part)

-- the same with these settings
abbrev pub EncodeEnds : Settings → Option Text → Option (List ℕ) → Result (Unit {0}) RunError → List ℕ → List ℕ → Type 0
EncodeEnds settings null after result input part = EncodeEnd input settings.only_utf8 settings.limit null settings.binary after part result
