-- What `decode` writes, and how it ends.
use Rattle.std.specs.Prelude.{true, ℕ, zero, suc, ◌≡◌, ◌+◌, ◌<◌, ◌⊎◌, Bool, List, [], ◌++◌, take, flat_map, Option, Some, None, Result, Ok, Err, MatchResult, slice_get}
use Rattle.lasso_parts.specs.Texts.{Text}
use Rattle.lasso_parts.specs.declared.util.LassoErrorKind.TheVariants.{FailedAllocation}
use Rattle.lasso_input.specs.Lines.{lines_of}
use Rattle.lasso_columns.specs.declared.faults.LineError.TheVariants.{Refused}
use Rattle.lasso_codes.specs.Distinct.{with_feed}
use Rattle.lasso_codes.specs.Encode.{EncodeEnd}
use Rattle.lasso_codes.specs.Errors.{AreTooMany}
use Rattle.lasso_codes.specs.Limits.{line_texts, Admits}
use Rattle.lasso_codes.specs.Reading.{Makes, ReadItems, texts_at, read_column, IsCut, IsEntryError, IsColumnError, LacksEntry}
use Rattle.lasso_codes.specs.Streams.{Begins, StopsShort, WritesAll}
use Rattle.lasso_codes.specs.declared.entries.Entry.TheVariants.{Missing, Bad, Null, Code}
use Rattle.lasso_codes.specs.declared.error.ColumnError.{ColumnError}
use Rattle.lasso_codes.specs.declared.error.ColumnError.TheVariants.{TextRefused, NoEntry, NotEntry, PastTexts, IsNull}
use Rattle.lasso_codes.specs.declared.error.RunError.{RunError}
use Rattle.lasso_codes.specs.declared.error.RunError.TheVariants.{Line, TooManyLines, ReadFailed, WriteFailed, ReaderGone, Column}

-- ---- the lines of columns

-- the text at a code, or that the code is past the texts
abbrev pub text_or_past : Option Text → ℕ → Result Text ColumnError
text_or_past None number = Err (PastTexts number)
text_or_past (Some text) number = Ok text

-- the word for a null, or that there is none
abbrev pub null_line : Option Text → ℕ → Result Text ColumnError
null_line None number = Err (IsNull number)
null_line (Some word) number = Ok word

-- the line of the entry with this number: the text at its code, or the word for a null
abbrev pub line_at : Option Text → List Text → Makes Text
line_at null list Missing number = Err (NoEntry number)
line_at null list Bad number = Err (NotEntry number)
line_at null list Null number = null_line null number
line_at null list (Code code) number = text_or_past (slice_get list code) number

-- the lines of the first column of the bytes, and the bytes after it; or the lines before an error. `null` is
-- the word for a null
abbrev pub decoded : Bool → Option Text → List ℕ → ReadItems Text
decoded only null bytes = read_column only (line_at null) bytes

-- the bytes begin with n columns, which have these lines, and the rest follows them
abbrev pub Reads : Bool → Option Text → ℕ → List ℕ → List Text → List ℕ → Type 0
Reads only null zero bytes lines rest = (lines ≡ []) × (rest ≡ bytes)
Reads only null (suc n) bytes lines rest =
    (before : List Text) × (mid : List ℕ) × Reads only null n bytes before mid × ((decoded only null mid).1 ≡ Ok rest) × (lines ≡ before ++ (decoded only null mid).0)

-- the first n columns of the bytes have dictionaries that a new interner with this limit takes, each one alone
abbrev pub AdmitsEach : Bool → ℕ → Option Text → ℕ → List ℕ → Type 0
AdmitsEach only limit null zero bytes = Unit {0}
AdmitsEach only limit null (suc n) bytes = AdmitsEach only limit null n bytes × ((lines : List Text) × (mid : List ℕ) × Reads only null n bytes lines mid × Admits limit (line_texts (texts_at only mid)))

-- ---- what is written of a column

-- each line with a line feed after it
abbrev pub fed_lines : List Text → List ℕ
fed_lines lines = flat_map with_feed lines

-- why not all lines of the column with this number were written. The lines before a bad entry were; after a
-- failed write, a beginning of the lines was
abbrev pub DecodingError : ReadItems Text → ℕ → List ℕ → RunError → Type 0
DecodingError read column part (Line error) = (error ≡ Refused 0 FailedAllocation) × ((m : ℕ) × (part ≡ fed_lines (take m read.0)))
DecodingError read column part TooManyLines = ⊥
DecodingError read column part ReadFailed = (m : ℕ) × (part ≡ fed_lines (take m read.0))
DecodingError read column part WriteFailed = Begins part (fed_lines read.0)
DecodingError read column part ReaderGone = Begins part (fed_lines read.0)
DecodingError read column part (Column number error) = (number ≡ column) × IsEntryError error × (read.1 ≡ Err error) × (part ≡ fed_lines read.0)

-- the line was written; or its entry is bad, and nothing was written
abbrev pub WritesEntry : Result Text ColumnError → ℕ → Result (Unit {0}) RunError → List ℕ → Type 0
WritesEntry (Ok line) column result part = WritesAll (with_feed line) result part
WritesEntry (Err error) column result part = (result ≡ Err (Column column error)) × (part ≡ [])

-- all lines of the column with this number were written, and the bytes after it are left. `reads` reads the lines from
-- bytes. If a read failed, an entry is missing in what was read, and the lines before it were written
abbrev pub WritesLines : (List ℕ → ReadItems Text) → List ℕ → ℕ → Option (List ℕ) → List ℕ → Result (Unit {0}) RunError → Type 0
WritesLines reads bytes column after part result =
    MatchResult result (λ _. (rest : List ℕ) × (after ≡ Some rest) × ((reads bytes).1 ≡ Ok rest) × (part ≡ fed_lines (reads bytes).0))
    (λ error. DecodingError (reads bytes) column part error × (error ≡ ReadFailed → StopsShort bytes after (LacksEntry reads (λ lines. part ≡ fed_lines lines))))

-- ---- how a run ends

-- the lines of the first n columns were written, and the first m lines of the next column. A new interner with
-- this limit takes the dictionary of each
abbrev pub IsWhole : List ℕ → Bool → ℕ → Option Text → List ℕ → Type 0
IsWhole input only limit null part =
    (n : ℕ) × (lines : List Text) × (rest : List ℕ) × Reads only null n input lines rest × AdmitsEach only limit null n input
    × ((m : ℕ) × (0 < m → Admits limit (line_texts (texts_at only rest))) × (part ≡ fed_lines (lines ++ take m (decoded only null rest).0)))

-- a beginning of these lines was written
abbrev pub IsBegun : List ℕ → Bool → Option Text → List ℕ → Type 0
IsBegun input only null part = (n : ℕ) × (lines : List Text) × (rest : List ℕ) × Reads only null n input lines rest × Begins part (fed_lines (lines ++ (decoded only null rest).0))

-- the lines of the column that are written before the error
abbrev pub lines_before : Bool → Option Text → List ℕ → ColumnError → List Text
lines_before only null bytes (TextRefused number error) = []
lines_before only null bytes error = (decoded only null bytes).0

-- the bytes are none, or end within a column, as an error says. The part is these lines, and then those of the column
-- that come before its end
abbrev pub DecodesPart : Bool → ℕ → Option Text → List Text → List ℕ → List ℕ → Type 0
DecodesPart only limit null lines part bytes =
    ((bytes ≡ []) × (part ≡ fed_lines lines))
    ⊎ ((error : ColumnError) × IsCut bytes error × IsColumnError only (line_at null) limit bytes error × (part ≡ fed_lines (lines ++ lines_before only null bytes error)))

-- the bytes are columns, but may end within the last one. A new interner with this limit takes the dictionary of each, and
-- the part is all lines in these bytes
abbrev pub DecodesShort : Bool → ℕ → Option Text → List ℕ → List ℕ → Type 0
DecodesShort only limit null part bytes =
    (n : ℕ) × (lines : List Text) × (rest : List ℕ) × Reads only null n bytes lines rest × AdmitsEach only limit null n bytes × DecodesPart only limit null lines part rest

-- how a run ends with an error after it has written the part, and what is left of the input then. If a read failed, it
-- ends as if the input had ended there, and nothing was wrong in what was read
abbrev pub DecodeError : List ℕ → Bool → ℕ → Option Text → Option (List ℕ) → List ℕ → RunError → Type 0
DecodeError input only limit null after part (Line error) = (error ≡ Refused 0 FailedAllocation) × IsWhole input only limit null part
DecodeError input only limit null after part TooManyLines =
    (n : ℕ) × (lines : List Text) × (rest : List ℕ) × Reads only null n input lines rest × AdmitsEach only limit null n input × AreTooMany n × (part ≡ fed_lines lines)
DecodeError input only limit null after part ReadFailed = IsWhole input only limit null part × StopsShort input after (DecodesShort only limit null part)
DecodeError input only limit null after part WriteFailed = IsBegun input only null part
DecodeError input only limit null after part ReaderGone = IsBegun input only null part
DecodeError input only limit null after part (Column column error) =
    (n : ℕ) × (lines : List Text) × (rest : List ℕ) × Reads only null n input lines rest × AdmitsEach only limit null n input × (column ≡ n + 1)
    × IsColumnError only (line_at null) limit rest error × (part ≡ fed_lines (lines ++ lines_before only null rest error))

-- how a run of `decode` ends: without an error, the input is columns, a new interner with this limit takes the
-- dictionary of each, and the part is their lines
abbrev pub DecodeEnd : List ℕ → Bool → ℕ → Option Text → Option (List ℕ) → List ℕ → Result (Unit {0}) RunError → Type 0
DecodeEnd input only limit null after part result =
    MatchResult result (λ _. (n : ℕ) × (lines : List Text) × Reads only null n input lines [] × AdmitsEach only limit null n input × (part ≡ fed_lines lines))
    (DecodeError input only limit null after part)

-- the same, of the input and the part
abbrev pub DecodeEnds : Bool → ℕ → Option Text → Option (List ℕ) → Result (Unit {0}) RunError → List ℕ → List ℕ → Type 0
DecodeEnds only limit null after result input part = DecodeEnd input only limit null after part result

-- ---- the law

-- decoding what `encode` wrote for an input gives the lines of the input, whatever follows the column. `strict`: only
-- UTF-8 is let in, and `encode` let in no more
abbrev pub DecodingGivesLines : Type 0
DecodingGivesLines =
    (input : List ℕ) (only strict : Bool) (limit : ℕ) (null : Option Text) (binary : Bool) (part rest : List ℕ) (after : Option (List ℕ))
    → (strict ≡ true → only ≡ true) → EncodeEnd input only limit null binary after part (Ok tt) → decoded strict null (part ++ rest) ≡ (lines_of input, Ok rest)
