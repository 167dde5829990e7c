-- What `recode` and `join` write, and how they end: columns after a dictionary, by whose codes their entries are rewritten.
use Rattle.std.specs.Prelude.{ℕ, zero, suc, ◌≡◌, ◌+◌, ◌<◌, ◌⊎◌, Bool, true, false, List, [], ◌∷◌, ◌++◌, map, take, All, Vec, Option, Some, None, Result, Ok, Err, MatchResult, IsSome, IsSomeAnd, slice_get}
use Rattle.hex.specs.Hex.{IsBytes}
use Rattle.lasso_input.specs.Lines.{lines_of}
use Rattle.lasso_parts.specs.Texts.{Text, position_of}
use Rattle.lasso_parts.specs.declared.util.LassoErrorKind.TheVariants.{FailedAllocation}
use Rattle.lasso_columns.specs.declared.faults.LineError.TheVariants.{Refused}
use Rattle.lasso_single.specs.Codes.{AreCodes}
use Rattle.lasso_codes.specs.Columns.{column_bytes, column_of, dictionary_of, entry_at, entry_of}
use Rattle.lasso_codes.specs.Encode.{EncodeEnd}
use Rattle.lasso_codes.specs.Errors.{AreTooMany}
use Rattle.lasso_codes.specs.Limits.{line_texts, Admits}
use Rattle.lasso_codes.specs.Merge.{distinct_of, recoded, AreFew, Merges}
use Rattle.lasso_codes.specs.Reading.{Makes, ReadItems, entry_items, head_of, texts_at, texts_from, read_column, IsCut, IsEntryError, IsColumnError, IsTextError, LacksEntry, LacksText}
use Rattle.lasso_codes.specs.Streams.{Begins, StopsShort}
use Rattle.lasso_codes.specs.declared.error.ColumnError.{ColumnError}
use Rattle.lasso_codes.specs.declared.error.ColumnError.TheVariants.{NoHeader, HasEntries, Absent}
use Rattle.lasso_codes.specs.declared.error.RunError.{RunError}
use Rattle.lasso_codes.specs.declared.error.RunError.TheVariants.{Line, TooManyLines, ReadFailed, WriteFailed, ReaderGone, Column}
use Rattle.lasso_codes.specs.declared.reading.Header.{Header}

-- ---- the dictionary

-- the bytes begin with a column without entries that has these texts, and the rest follows it. A new interner with this
-- limit takes them
abbrev pub IsDictionary : Bool → ℕ → List ℕ → List Text → List ℕ → Type 0
IsDictionary only limit bytes list rest =
    (header : Header) × (left : List ℕ) × (head_of bytes ≡ Some (header, left)) × (header.lines ≡ 0) × (texts_from only header.distinct [] left ≡ Ok (list, rest))
    × Admits limit (line_texts list)

-- there is a header for a column without entries, and reading its texts ends with this error
abbrev pub IsDictionaryTextError : Bool → ℕ → List ℕ → ColumnError → Type 0
IsDictionaryTextError only limit bytes error =
    (header : Header) × (left : List ℕ) × (head_of bytes ≡ Some (header, left)) × (header.lines ≡ 0) × IsTextError only limit header.distinct left error

-- why the bytes don't begin with a dictionary: there is no header, there are entries, or it is the error of a text
abbrev pub IsDictionaryError : Bool → ℕ → List ℕ → ColumnError → Type 0
IsDictionaryError only limit bytes NoHeader = head_of bytes ≡ None
IsDictionaryError only limit bytes HasEntries = (header : Header) × (left : List ℕ) × (head_of bytes ≡ Some (header, left)) × (0 < header.lines)
IsDictionaryError only limit bytes error = IsDictionaryTextError only limit bytes error

-- the bytes end within the dictionary, and have no other fault
abbrev pub IsDictionaryCut : Bool → ℕ → List ℕ → Type 0
IsDictionaryCut only limit bytes = (error : ColumnError) × IsCut bytes error × IsDictionaryError only limit bytes error

-- why the dictionary was not read from these bytes, and what is left of them then
abbrev pub DictionaryError : Bool → ℕ → List ℕ → Option (List ℕ) → RunError → Type 0
DictionaryError only limit bytes after (Line error) = error ≡ Refused 0 FailedAllocation
DictionaryError only limit bytes after TooManyLines = ⊥
DictionaryError only limit bytes after ReadFailed = StopsShort bytes after (IsDictionaryCut only limit)
DictionaryError only limit bytes after WriteFailed = ⊥
DictionaryError only limit bytes after ReaderGone = ⊥
DictionaryError only limit bytes after (Column column error) = (column ≡ 1) × IsDictionaryError only limit bytes error

-- the dictionary was read, and these are its texts; the bytes after it are left
abbrev pub TakesDictionary : Bool → ℕ → List ℕ → Option (List ℕ) → List Text → Type 0
TakesDictionary only limit bytes after texts =
    (list : List Text) × (rest : List ℕ) × (after ≡ Some rest) × IsDictionary only limit bytes list rest × All IsBytes list × (texts ≡ line_texts list)

-- ---- the columns after it

-- the texts of a column, or those of the list if the column has none
abbrev pub texts_or : List Text → List Text → List Text
texts_or list [] = list
texts_or list (text ∷ texts) = text ∷ texts

-- an entry by the codes of the list: of a column without texts it is one already
abbrev pub coded : List Text → List Text → Makes (Option ℕ)
coded list texts = recoded list (texts_or list texts)

-- the entries of the first column of the bytes by the codes of the list, and the bytes after it; or the entries before an
-- error
abbrev pub coded_entries : Bool → List Text → List ℕ → ReadItems (Option ℕ)
coded_entries only list bytes = read_column only (coded list) bytes

-- the list has each of the texts
abbrev pub HasAll : List Text → List Text → Type 0
HasAll list texts = All (λ text. IsSome (position_of list text)) texts

-- the bytes begin with n columns, and the rest follows them. The list has the texts of each, a new interner with this
-- limit takes them, and these are the entries of all, by the codes of the list
abbrev pub Recodes : Bool → ℕ → List Text → ℕ → List ℕ → List (Option ℕ) → List ℕ → Type 0
Recodes only limit list zero bytes entries rest = (entries ≡ []) × (rest ≡ bytes)
Recodes only limit list (suc n) bytes entries rest =
    (first : List (Option ℕ)) × (mid : List ℕ) × Recodes only limit list n bytes first mid
    × Admits limit (line_texts (texts_at only mid)) × HasAll list (texts_at only mid)
    × ((coded_entries only list mid).1 ≡ Ok rest) × (entries ≡ first ++ (coded_entries only list mid).0)

-- the text with this number is the first that the list lacks
abbrev pub IsAbsent : List Text → List Text → ℕ → Type 0
IsAbsent list texts number = (n : ℕ) × (number ≡ n + 1) × HasAll list (take n texts) × IsSomeAnd (slice_get texts n) (λ text. position_of list text ≡ None)

-- why the next column of the bytes was not taken, after n columns. There has to be one. A text that the list lacks is
-- reported after all texts were read, and before an entry
abbrev pub IsRecodeError : Bool → ℕ → List Text → ℕ → List ℕ → ColumnError → Type 0
IsRecodeError only limit list n bytes NoHeader = (head_of bytes ≡ None) × (bytes ≡ [] → n ≡ 0)
IsRecodeError only limit list n bytes (Absent number) =
    (header : Header) × (left : List ℕ) × (rest : List ℕ) × (texts : List Text) × (head_of bytes ≡ Some (header, left)) × (texts_from only header.distinct [] left ≡ Ok (texts, rest))
    × Admits limit (line_texts texts) × IsAbsent list texts number
IsRecodeError only limit list n bytes error = IsColumnError only (coded list) limit bytes error × (IsEntryError error → HasAll list (texts_at only bytes))

-- why codes were not found: memory ran out; or the list has the texts before one, and not that one
abbrev pub IsFindFailure : List Text → List Text → ℕ → RunError → Type 0
IsFindFailure list texts column error =
    (error ≡ Line (Refused 0 FailedAllocation))
    ⊎ ((number : ℕ) × (n : ℕ) × (error ≡ Column column (Absent number)) × (number ≡ n + 1) × ((codes : List ℕ) × AreCodes list (take n texts) codes) × IsSomeAnd (slice_get texts n) (λ text. position_of list text ≡ None))

-- the codes are those of the texts in the list
abbrev pub FindsCodes : {A : Type 0} → List Text → List Text → ℕ → Result (Vec ℕ A) RunError → Type 0
FindsCodes list texts column result = MatchResult result (λ codes. AreCodes list texts codes.items) (IsFindFailure list texts column)

-- the texts of a column with this header were read from the bytes after it, and these bytes follow. A new interner with
-- this limit takes them
abbrev pub HasTexts : Bool → ℕ → Header → List ℕ → List Text → List ℕ → Type 0
HasTexts only limit header bytes texts mid = (texts_from only header.distinct [] bytes ≡ Ok (texts, mid)) × Admits limit (line_texts texts)

-- why the column with this header was not taken from the bytes after it: for a text, for a text that the list lacks, or
-- for an entry
abbrev pub IsBodyError : Bool → ℕ → List Text → Header → List ℕ → ColumnError → Type 0
IsBodyError only limit list header bytes error =
    IsTextError only limit header.distinct bytes error
    ⊎ ((texts : List Text) × (mid : List ℕ) × HasTexts only limit header bytes texts mid
    × (((number : ℕ) × (error ≡ Absent number) × IsAbsent list texts number)
    ⊎ (HasAll list texts × IsEntryError error × ((entry_items (coded list texts) header mid).1 ≡ Err error))))

-- a text or an entry of the column is missing, and before it all is well
abbrev pub IsBodyCut : Bool → ℕ → List Text → Header → List ℕ → Type 0
IsBodyCut only limit list header bytes =
    LacksText only limit header.distinct bytes
    ⊎ ((texts : List Text) × (mid : List ℕ) × HasTexts only limit header bytes texts mid × HasAll list texts × LacksEntry (entry_items (coded list texts) header) (λ _. Unit {0}) mid)

-- why the column with this header and number was not taken, and what is left of the bytes then
abbrev pub BodyError : Bool → ℕ → List Text → Header → List ℕ → ℕ → Option (List ℕ) → RunError → Type 0
BodyError only limit list header bytes column after (Line error) = error ≡ Refused 0 FailedAllocation
BodyError only limit list header bytes column after TooManyLines = ⊥
BodyError only limit list header bytes column after ReadFailed = StopsShort bytes after (IsBodyCut only limit list header)
BodyError only limit list header bytes column after WriteFailed = ⊥
BodyError only limit list header bytes column after ReaderGone = ⊥
BodyError only limit list header bytes column after (Column number error) = (number ≡ column) × IsBodyError only limit list header bytes error

-- the entries of a column with this header and number were added by the codes of the list, and the bytes after it are left
abbrev pub AddsColumn : Bool → ℕ → List Text → Header → List ℕ → ℕ → Option (List ℕ) → (before after : List ℕ) → Result (Unit {0}) RunError → Type 0
AddsColumn only limit list header bytes column left before after result =
    MatchResult result
    (λ _. (texts : List Text) × (mid : List ℕ) × (rest : List ℕ) × HasTexts only limit header bytes texts mid × HasAll list texts × (left ≡ Some rest)
    × ((entry_items (coded list texts) header mid).1 ≡ Ok rest) × (map entry_at after ≡ map entry_at before ++ (entry_items (coded list texts) header mid).0))
    (BodyError only limit list header bytes column left)

-- ---- how a run ends

-- the bytes are n columns after the dictionary, but may end within one. What is whole is taken
abbrev pub ColumnsShort : Bool → ℕ → List Text → List ℕ → Type 0
ColumnsShort only limit list bytes =
    (n : ℕ) × (entries : List (Option ℕ)) × (rest : List ℕ) × Recodes only limit list n bytes entries rest
    × ((rest ≡ []) ⊎ ((error : ColumnError) × IsCut rest error × IsRecodeError only limit list n rest error))

-- why the columns after the dictionary were not all taken, and what is left of the bytes then. The first of them is
-- column 2
abbrev pub ColumnsError : Bool → ℕ → List Text → List ℕ → Option (List ℕ) → RunError → Type 0
ColumnsError only limit list bytes after (Line error) = error ≡ Refused 0 FailedAllocation
ColumnsError only limit list bytes after TooManyLines =
    (n : ℕ) × (entries : List (Option ℕ)) × (rest : List ℕ) × Recodes only limit list n bytes entries rest × AreTooMany (n + 1)
ColumnsError only limit list bytes after ReadFailed = StopsShort bytes after (ColumnsShort only limit list)
ColumnsError only limit list bytes after WriteFailed = ⊥
ColumnsError only limit list bytes after ReaderGone = ⊥
ColumnsError only limit list bytes after (Column column error) =
    (n : ℕ) × (entries : List (Option ℕ)) × (rest : List ℕ) × Recodes only limit list n bytes entries rest × (column ≡ n + 2)
    × IsRecodeError only limit list n rest error

-- all columns after the dictionary were taken, and there is at least one
abbrev pub AddsColumns : Bool → ℕ → List Text → List ℕ → Option (List ℕ) → List (Option ℕ) → Result (Unit {0}) RunError → Type 0
AddsColumns only limit list bytes after entries result =
    MatchResult result (λ _. (n : ℕ) × Recodes only limit list (n + 1) bytes entries []) (ColumnsError only limit list bytes after)

-- the bytes are a dictionary and columns, but may end within one of these. What is whole is taken
abbrev pub RecodesShort : Bool → ℕ → List ℕ → Type 0
RecodesShort only limit bytes =
    IsDictionaryCut only limit bytes ⊎ ((list : List Text) × (mid : List ℕ) × IsDictionary only limit bytes list mid × ColumnsShort only limit list mid)

-- there are a dictionary and these bytes after it, for which P holds
abbrev pub AfterDictionary : Bool → ℕ → List ℕ → (List Text → List ℕ → Type 0) → Type 0
AfterDictionary only limit bytes P = (list : List Text) × (mid : List ℕ) × IsDictionary only limit bytes list mid × P list mid

-- why the dictionary and the columns were not all taken, and what is left of the input then. The dictionary is column 1.
-- If a read failed, nothing was wrong in what was read
abbrev pub RecodingError : List ℕ → Bool → ℕ → Option (List ℕ) → RunError → Type 0
RecodingError input only limit after (Line error) = error ≡ Refused 0 FailedAllocation
RecodingError input only limit after TooManyLines = AfterDictionary only limit input (λ list mid. ColumnsError only limit list mid after TooManyLines)
RecodingError input only limit after ReadFailed = StopsShort input after (RecodesShort only limit)
RecodingError input only limit after WriteFailed = ⊥
RecodingError input only limit after ReaderGone = ⊥
RecodingError input only limit after (Column column error) =
    ((column ≡ 1) × IsDictionaryError only limit input error)
    ⊎ AfterDictionary only limit input (λ list mid. ColumnsError only limit list mid after (Column column error))

-- the input is a dictionary and at least one column, with these entries by its codes
abbrev pub AreRecoded : List ℕ → Bool → ℕ → List Text → List (Option ℕ) → Type 0
AreRecoded input only limit list entries = (mid : List ℕ) × (n : ℕ) × IsDictionary only limit input list mid × Recodes only limit list (n + 1) mid entries []

-- nothing was written, or a beginning of what the form makes of the dictionary and the entries
abbrev pub IsRecodeBegun : List ℕ → Bool → ℕ → (List Text → List (Option ℕ) → List ℕ) → List ℕ → Type 0
IsRecodeBegun input only limit form part =
    (part ≡ []) ⊎ ((list : List Text) × (entries : List (Option ℕ)) × AreRecoded input only limit list entries × Begins part (form list entries))

-- how a run ends with an error after it has written the part, and what is left of the input then. Nothing was written
-- unless all columns were taken
abbrev pub RecodedError : List ℕ → Bool → ℕ → (List Text → List (Option ℕ) → List ℕ) → Option (List ℕ) → List ℕ → RunError → Type 0
RecodedError input only limit form after part (Line error) = (part ≡ []) × RecodingError input only limit after (Line error)
RecodedError input only limit form after part TooManyLines = (part ≡ []) × RecodingError input only limit after TooManyLines
RecodedError input only limit form after part ReadFailed = (part ≡ []) × RecodingError input only limit after ReadFailed
RecodedError input only limit form after part WriteFailed = IsRecodeBegun input only limit form part
RecodedError input only limit form after part ReaderGone = IsRecodeBegun input only limit form part
RecodedError input only limit form after part (Column column error) = (part ≡ []) × RecodingError input only limit after (Column column error)

-- how a run ends: without an error, the input is a dictionary and at least one column within this limit, and the part is
-- what the form makes of the dictionary and of the entries by its codes
abbrev pub RecodedEnd : List ℕ → Bool → ℕ → (List Text → List (Option ℕ) → List ℕ) → Option (List ℕ) → List ℕ → Result (Unit {0}) RunError → Type 0
RecodedEnd input only limit form after part result =
    MatchResult result
    (λ _. (list : List Text) × (entries : List (Option ℕ)) × AreRecoded input only limit list entries × AreFew list entries × (part ≡ form list entries))
    (RecodedError input only limit form after part)

-- the column of the entries without texts
abbrev pub without_texts : Bool → List Text → List (Option ℕ) → List ℕ
without_texts binary list entries = column_of binary [] entries

-- the column of the entries with or without the texts of the dictionary
abbrev pub form_of : Bool → Bool → List Text → List (Option ℕ) → List ℕ
form_of true binary = column_of binary
form_of false binary = without_texts binary

-- how a run of `recode` ends: the part is the entries, as a column without texts
abbrev pub RecodeEnd : List ℕ → Bool → ℕ → Bool → Option (List ℕ) → List ℕ → Result (Unit {0}) RunError → Type 0
RecodeEnd input only limit binary after part result = RecodedEnd input only limit (without_texts binary) after part result

-- how a run of `join` ends: the part is the column of the dictionary and of the entries
abbrev pub JoinEnd : List ℕ → Bool → ℕ → Bool → Option (List ℕ) → List ℕ → Result (Unit {0}) RunError → Type 0
JoinEnd input only limit binary after part result = RecodedEnd input only limit (column_of binary) after part result

-- the same, of the input and the part
abbrev pub RecodeEnds : Bool → ℕ → Bool → Option (List ℕ) → Result (Unit {0}) RunError → List ℕ → List ℕ → Type 0
RecodeEnds only limit binary after result input part = RecodeEnd input only limit binary after part result

abbrev pub JoinEnds : Bool → ℕ → Bool → Option (List ℕ) → Result (Unit {0}) RunError → List ℕ → List ℕ → Type 0
JoinEnds only limit binary after result input part = JoinEnd input only limit binary after part result

-- ---- the laws

-- `encode` writes this part for the lines of the input
abbrev pub EncodesTo : Bool → Option Text → List ℕ → List ℕ → Type 0
EncodesTo only null input part = (limit : ℕ) × (binary : Bool) × (after : Option (List ℕ)) × EncodeEnd input only limit null binary after part (Ok tt)

-- of what `encode` wrote, the entries by the codes of a list are those of the lines, whatever follows the column
abbrev pub RecodingKeepsLines : Type 0
RecodingKeepsLines =
    (input : List ℕ) (only strict : Bool) (null : Option Text) (part rest : List ℕ) (list : List Text)
    → (strict ≡ true → only ≡ true) → EncodesTo only null input part → coded_entries strict list (part ++ rest) ≡ (map (entry_of null list) (lines_of input), Ok rest)

-- the lines of the first n inputs, one input after another
abbrev pub lines_before : (ℕ → List ℕ) → ℕ → List Text
lines_before inputs zero = []
lines_before inputs (suc n) = lines_before inputs n ++ lines_of (inputs n)

-- the bytes begin with the columns that `encode` wrote for the first n inputs, and the rest follows them
abbrev pub EncodesParts : Bool → Option Text → (ℕ → List ℕ) → ℕ → List ℕ → List ℕ → Type 0
EncodesParts only null inputs zero bytes rest = rest ≡ bytes
EncodesParts only null inputs (suc n) bytes rest =
    (part : List ℕ) × EncodesParts only null inputs n bytes (part ++ rest) × EncodesTo only null (inputs n) part

-- the distinct texts of the parts' columns, merged, are the dictionary of all lines
abbrev pub MergingGivesOneDictionary : Type 0
MergingGivesOneDictionary =
    (only strict : Bool) (null : Option Text) (inputs : ℕ → List ℕ) (n : ℕ) (bytes rest left : List ℕ) (texts : List Text) (entries : List (Option ℕ))
    → (strict ≡ true → only ≡ true) → EncodesParts only null inputs n bytes rest → Merges strict n bytes texts entries left → distinct_of texts ≡ dictionary_of null (lines_before inputs n)

-- a dictionary that was merged may be merged in the place of its texts
abbrev pub DictionariesMergeInSteps : Type 0
DictionariesMergeInSteps =
    (before texts after : List Text) → distinct_of (before ++ (distinct_of texts ++ after)) ≡ distinct_of (before ++ (texts ++ after))

-- the parts of an input, encoded each, recoded by the dictionary of all lines and joined, are the column of all lines
abbrev pub JoiningGivesOneColumn : Type 0
JoiningGivesOneColumn =
    (only strict binary : Bool) (limit : ℕ) (null : Option Text) (inputs : ℕ → List ℕ) (n : ℕ) (bytes rest left : List ℕ) (list : List Text) (entries : List (Option ℕ))
    → (strict ≡ true → only ≡ true) → EncodesParts only null inputs n bytes rest → list ≡ dictionary_of null (lines_before inputs n) → Recodes strict limit list n bytes entries left
    → column_of binary list entries ≡ column_bytes binary null (lines_before inputs n)
