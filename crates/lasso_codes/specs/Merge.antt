-- What `merge` writes, and how it ends.
use Rattle.std.specs.Prelude.{ℕ, zero, suc, ◌≡◌, ◌+◌, ◌^◌, ◌<◌, ◌⊎◌, Bool, List, [], ◌∷◌, ◌++◌, length, map, take, All, Option, Some, None, Result, Ok, Err, MatchResult, IsSomeAnd, slice_get}
use Rattle.hex.specs.Hex.{IsBytes}
use Rattle.lasso_parts.specs.Texts.{Text, IsDistinct, position_of}
use Rattle.lasso_parts.specs.declared.util.LassoError.{LassoError}
use Rattle.lasso_parts.specs.declared.util.LassoErrorKind.TheVariants.{FailedAllocation}
use Rattle.lasso_single.specs.Filling.{extend}
use Rattle.lasso_single.specs.Interner.{InternerView, made_with}
use Rattle.lasso_single.specs.Coding.{spur_at, IsRefused}
use Rattle.lasso_columns.specs.Parts.{new_texts}
use Rattle.lasso_input.specs.Texts.{text_of}
use Rattle.lasso_columns.specs.declared.faults.LineError.TheVariants.{Refused}
use Rattle.lasso_codes.specs.Columns.{column_of, entry_at}
use Rattle.lasso_codes.specs.Decode.{decoded, Reads}
use Rattle.lasso_codes.specs.Errors.{AreTooMany}
use Rattle.lasso_codes.specs.Limits.{line_texts, Admits}
use Rattle.lasso_codes.specs.Reading.{Makes, ReadItems, texts_at, read_column, IsCut, IsEntryError, IsColumnError, LacksEntry}
use Rattle.lasso_codes.specs.Streams.{Begins, StopsShort}
use Rattle.lasso_codes.specs.declared.entries.Entry.TheVariants.{Missing, Bad, Null, Code}
use Rattle.lasso_codes.specs.declared.error.ColumnError.{ColumnError}
use Rattle.lasso_codes.specs.declared.error.ColumnError.TheVariants.{NoEntry, NotEntry, PastTexts, NotMerged}
use Rattle.lasso_codes.specs.declared.error.RunError.{RunError}
use Rattle.lasso_codes.specs.declared.error.RunError.TheVariants.{Line, TooManyLines, ReadFailed, WriteFailed, ReaderGone, Column}

-- ---- the entries of a column in the dictionary of all

-- the code of the text in the list
abbrev pub code_or_past : List Text → Option Text → ℕ → Result (Option ℕ) ColumnError
code_or_past list None number = Err (PastTexts number)
code_or_past list (Some text) number = Ok (position_of list text)

-- the entry with this number, rewritten for the list: none for a null, and else the code of its text in the
-- list. `texts` is the dictionary of the entry's column
abbrev pub recoded : List Text → List Text → Makes (Option ℕ)
recoded list texts Missing number = Err (NoEntry number)
recoded list texts Bad number = Err (NotEntry number)
recoded list texts Null number = Ok None
recoded list texts (Code code) number = code_or_past list (slice_get texts code) number

-- the entries of the first column of the bytes, rewritten for the list, and the bytes after it; or the
-- entries before an error
abbrev pub entries_of : Bool → List Text → List ℕ → ReadItems (Option ℕ)
entries_of only list bytes = read_column only (recoded list) bytes

-- ---- columns as one

-- each distinct text once, in the order of first occurrences
abbrev pub distinct_of : List Text → List Text
distinct_of texts = new_texts [] texts

-- the bytes begin with n columns, and the rest follows them. `texts` are the texts of their dictionaries, in
-- order. `entries` are their entries; a code is the position of its text among the distinct texts
abbrev pub Merges : Bool → ℕ → List ℕ → List Text → List (Option ℕ) → List ℕ → Type 0
Merges only zero bytes texts entries rest = (texts ≡ []) × (entries ≡ []) × (rest ≡ bytes)
Merges only (suc n) bytes texts entries rest =
    (before : List Text) × (first : List (Option ℕ)) × (mid : List ℕ) × Merges only n bytes before first mid × (texts ≡ before ++ texts_at only mid)
    × ((entries_of only (distinct_of texts) mid).1 ≡ Ok rest) × (entries ≡ first ++ (entries_of only (distinct_of texts) mid).0)

-- the first n columns of the bytes have dictionaries that a new interner with this limit takes, each one alone
abbrev pub AdmitsColumns : Bool → ℕ → ℕ → List ℕ → Type 0
AdmitsColumns only limit zero bytes = Unit {0}
AdmitsColumns only limit (suc n) bytes =
    AdmitsColumns only limit n bytes × ((texts : List Text) × (entries : List (Option ℕ)) × (mid : List ℕ) × Merges only n bytes texts entries mid × Admits limit (line_texts (texts_at only mid)))

-- the bytes begin with n columns, as `Merges` says. A new interner with this limit takes the dictionary of each,
-- and one takes the texts of all
abbrev pub MergesWithin : Bool → ℕ → ℕ → List ℕ → List Text → List (Option ℕ) → List ℕ → Type 0
MergesWithin only limit n bytes texts entries rest = Merges only n bytes texts entries rest × AdmitsColumns only limit n bytes × Admits limit (line_texts texts)

-- why the entries of the column with this number were not added
abbrev pub EntriesError : ReadItems (Option ℕ) → ℕ → RunError → Type 0
EntriesError read column (Line error) = error ≡ Refused 0 FailedAllocation
EntriesError read column TooManyLines = ⊥
EntriesError read column ReadFailed = Unit {0}
EntriesError read column WriteFailed = ⊥
EntriesError read column ReaderGone = ⊥
EntriesError read column (Column number error) = (number ≡ column) × IsEntryError error × (read.1 ≡ Err error)

-- the number of the entry was added, or there was no memory for it; or the entry is bad
abbrev pub AddsEntry : Result (Option ℕ) ColumnError → ℕ → List ℕ → List ℕ → Result (Unit {0}) RunError → Type 0
AddsEntry (Ok entry) column before after result =
    MatchResult result (λ _. (number : ℕ) × (entry ≡ entry_at number) × (after ≡ before ++ number ∷ [])) (λ error. error ≡ Line (Refused 0 FailedAllocation))
AddsEntry (Err error) column before after result = result ≡ Err (Column column error)

-- the entries of the column with this number were added, and the bytes after them are left. `reads` reads the entries from
-- bytes. If a read failed, an entry is missing in what was read
abbrev pub AddsEntries : (List ℕ → ReadItems (Option ℕ)) → List ℕ → ℕ → Option (List ℕ) → List ℕ → List ℕ → Result (Unit {0}) RunError → Type 0
AddsEntries reads bytes column left before after result =
    MatchResult result
    (λ _. (rest : List ℕ) × (left ≡ Some rest) × ((reads bytes).1 ≡ Ok rest) × (map entry_at after ≡ map entry_at before ++ (reads bytes).0))
    (λ error. EntriesError (reads bytes) column error × (error ≡ ReadFailed → StopsShort bytes left (LacksEntry reads (λ _. Unit {0}))))

-- ---- how a run ends

-- one of the texts is refused by an interner with this limit that holds the texts before it and those of the
-- columns before
abbrev pub IsNotMerged : ℕ → List Text → List Text → LassoError → Type 0
IsNotMerged limit before texts error =
    (n : ℕ) × (now : InternerView) × extend spur_at (made_with 4096 limit) (line_texts (before ++ take n texts)) (Ok tt) now × IsSomeAnd (slice_get texts n) (λ text. IsRefused now (text_of text) error)

-- why the first column of the bytes was not merged. `before` are the texts of the columns before it. Before an
-- entry that is at fault, a new interner with this limit takes those and the texts of the column
abbrev pub IsMergeError : Bool → ℕ → List Text → List ℕ → ColumnError → Type 0
IsMergeError only limit before bytes (NotMerged error) = Admits limit (line_texts (texts_at only bytes)) × IsNotMerged limit before (texts_at only bytes) error
IsMergeError only limit before bytes error =
    IsColumnError only (recoded (distinct_of (before ++ texts_at only bytes))) limit bytes error × (IsEntryError error → Admits limit (line_texts (before ++ texts_at only bytes)))

-- nothing was written, or a beginning of what the form makes of the merged dictionary and entries
abbrev pub IsMergeBegun : List ℕ → Bool → (List Text → List (Option ℕ) → List ℕ) → List ℕ → Type 0
IsMergeBegun input only form part =
    (part ≡ []) ⊎ ((n : ℕ) × (texts : List Text) × (entries : List (Option ℕ)) × Merges only n input texts entries [] × Begins part (form (distinct_of texts) entries))

-- the list is the dictionary of the merged column, and the numbers are those of its entries
abbrev pub AreMerged : List ℕ → Bool → ℕ → List Text → List ℕ → Type 0
AreMerged input only limit list numbers =
    (n : ℕ) × (texts : List Text) × MergesWithin only limit n input texts (map entry_at numbers) [] × (list ≡ line_texts (distinct_of texts)) × All IsBytes texts × (length list < 2 ^ 32)

-- the bytes are columns, but may end within the last one. The whole ones are merged within this limit
abbrev pub MergesShort : Bool → ℕ → List ℕ → Type 0
MergesShort only limit bytes =
    (n : ℕ) × (texts : List Text) × (entries : List (Option ℕ)) × (rest : List ℕ) × MergesWithin only limit n bytes texts entries rest
    × ((rest ≡ []) ⊎ ((error : ColumnError) × IsCut rest error × IsMergeError only limit texts rest error))

-- why columns were not merged, and what is left of the input then. If a read failed, nothing was wrong in what was read
abbrev pub MergingError : List ℕ → Bool → ℕ → Option (List ℕ) → RunError → Type 0
MergingError input only limit after (Line error) = error ≡ Refused 0 FailedAllocation
MergingError input only limit after TooManyLines =
    (n : ℕ) × (texts : List Text) × (entries : List (Option ℕ)) × (rest : List ℕ) × MergesWithin only limit n input texts entries rest × AreTooMany n
MergingError input only limit after ReadFailed = StopsShort input after (MergesShort only limit)
MergingError input only limit after WriteFailed = ⊥
MergingError input only limit after ReaderGone = ⊥
MergingError input only limit after (Column column error) =
    (n : ℕ) × (texts : List Text) × (entries : List (Option ℕ)) × (rest : List ℕ) × MergesWithin only limit n input texts entries rest × (column ≡ n + 1)
    × IsMergeError only limit texts rest error

-- how a run ends with an error after it has written the part, and what is left of the input then. Nothing was written
-- unless all columns were merged
abbrev pub MergeError : List ℕ → Bool → ℕ → (List Text → List (Option ℕ) → List ℕ) → Option (List ℕ) → List ℕ → RunError → Type 0
MergeError input only limit form after part (Line error) = (part ≡ []) × MergingError input only limit after (Line error)
MergeError input only limit form after part TooManyLines = (part ≡ []) × MergingError input only limit after TooManyLines
MergeError input only limit form after part ReadFailed = (part ≡ []) × MergingError input only limit after ReadFailed
MergeError input only limit form after part WriteFailed = IsMergeBegun input only form part
MergeError input only limit form after part ReaderGone = IsMergeBegun input only form part
MergeError input only limit form after part (Column column error) = (part ≡ []) × MergingError input only limit after (Column column error)

-- the codes and the number of entries fit into a column
abbrev pub AreFew : List Text → List (Option ℕ) → Type 0
AreFew list entries = (length list < 2 ^ 32) × (length entries < 2 ^ 64)

-- how a run over columns ends: without an error, the input is columns, they are merged within this limit, and the part
-- is what the form makes of the merged dictionary and entries
abbrev pub MergedEnd : List ℕ → Bool → ℕ → (List Text → List (Option ℕ) → List ℕ) → Option (List ℕ) → List ℕ → Result (Unit {0}) RunError → Type 0
MergedEnd input only limit form after part result =
    MatchResult result
    (λ _. (n : ℕ) × (texts : List Text) × (entries : List (Option ℕ)) × MergesWithin only limit n input texts entries [] × AreFew (distinct_of texts) entries
    × (part ≡ form (distinct_of texts) entries))
    (MergeError input only limit form after part)

-- the column of a dictionary without its entries
abbrev pub without_entries : Bool → List Text → List (Option ℕ) → List ℕ
without_entries binary list entries = column_of binary list []

-- how a run of `merge` ends: the part is the merged column
abbrev pub MergeEnd : List ℕ → Bool → ℕ → Bool → Option (List ℕ) → List ℕ → Result (Unit {0}) RunError → Type 0
MergeEnd input only limit binary after part result = MergedEnd input only limit (column_of binary) after part result

-- how a run of `dictionary` ends: the part is the merged column without its entries
abbrev pub DictionaryEnd : List ℕ → Bool → ℕ → Bool → Option (List ℕ) → List ℕ → Result (Unit {0}) RunError → Type 0
DictionaryEnd input only limit binary after part result = MergedEnd input only limit (without_entries binary) after part result

-- the same, of the input and the part
abbrev pub MergeEnds : Bool → ℕ → Bool → Option (List ℕ) → Result (Unit {0}) RunError → List ℕ → List ℕ → Type 0
MergeEnds only limit binary after result input part = MergeEnd input only limit binary after part result

abbrev pub DictionaryEnds : Bool → ℕ → Bool → Option (List ℕ) → Result (Unit {0}) RunError → List ℕ → List ℕ → Type 0
DictionaryEnds only limit binary after result input part = DictionaryEnd input only limit binary after part result

-- ---- the laws

-- the merged column decodes to the lines of each of the columns, in order, whatever follows it and whichever
-- word a null has
abbrev pub MergingKeepsLines : Type 0
MergingKeepsLines =
    (only binary : Bool) (null : Option Text) (n : ℕ) (input rest more : List ℕ) (texts : List Text) (entries : List (Option ℕ)) (lines : List Text)
    → Merges only n input texts entries rest → AreFew (distinct_of texts) entries → Reads only null n input lines rest
    → decoded only null (column_of binary (distinct_of texts) entries ++ more) ≡ (lines, Ok more)

-- columns that were merged can be decoded, whichever word a null has
abbrev pub MergedColumnsDecode : Type 0
MergedColumnsDecode =
    (only : Bool) (word : Text) (n : ℕ) (input rest : List ℕ) (texts : List Text) (entries : List (Option ℕ))
    → Merges only n input texts entries rest → (lines : List Text) × Reads only (Some word) n input lines rest

-- the distinct texts are distinct
abbrev pub DictionariesAreDistinct : Type 0
DictionariesAreDistinct = (texts : List Text) → IsDistinct (distinct_of texts)
