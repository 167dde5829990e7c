-- What `counts` writes, and how it ends.
use Rattle.std.specs.Prelude.{ℕ, ◌≡◌, ◌+◌, ◌-◌, ◌⊎◌, Bool, false, List, [], ◌∷◌, ◌++◌, length, map, IsPermutation, IsSorted, flat_map, take, sum_by, decimal, replicate, Option, None, Vec, Result, MatchResult}
use Rattle.std.specs.declared.cmp.Reverse.{Reverse}
use Rattle.lasso_parts.specs.Texts.{Text}
use Rattle.lasso_single.specs.Interner.{InternerView}
use Rattle.lasso_input.specs.Lines.{lines_of}
use Rattle.lasso_input.specs.Texts.{is_own_text, text_of}
use Rattle.lasso_columns.specs.Parts.{new_texts}
use Rattle.lasso_columns.specs.declared.faults.LineError.{LineError}
use Rattle.lasso_columns.specs.declared.faults.LineError.TheVariants.{Refused, NotText}
use Rattle.lasso_parts.specs.declared.util.LassoErrorKind.TheVariants.{FailedAllocation}
use Rattle.lasso_columns.specs.Adding.{RefusesNew}
use Rattle.lasso_columns.specs.Blocks.{numbered}
use Rattle.lasso_columns.specs.Counts.{count_of, ranked_cmp, AreCounts}
use Rattle.lasso_codes.specs.Distinct.{IsErrorAfter}
use Rattle.lasso_codes.specs.Encode.{StopsEncoding}
use Rattle.lasso_codes.specs.Errors.{AreTooMany}
use Rattle.lasso_codes.specs.Limits.{line_texts, AreLetIn, AreTaken}
use Rattle.lasso_codes.specs.Streams.{Begins, FailsAfter}
use Rattle.lasso_codes.specs.declared.arguments.Settings.{Settings}
use Rattle.lasso_codes.specs.declared.error.RunError.{RunError}
use Rattle.lasso_codes.specs.declared.error.RunError.TheVariants.{Line, TooManyLines, ReadFailed, WriteFailed, ReaderGone, Column}

-- a ranked item in contracts: its count, and the bytes that it lends
abbrev pub pair_by : {T : Type 0} → (T → Text) → Reverse ℕ × T → ℕ × Text
pair_by lent ranked = (ranked.0.0, lent ranked.1)

-- a line of the report: the count's digits, a space, the line and a line feed
abbrev pub count_line : ℕ × Text → List ℕ
count_line pair = decimal pair.0 ++ (32 ∷ (pair.1 ++ 10 ∷ []))

-- each distinct line once, with its count
abbrev pub counted_lines : List Text → List (ℕ × Text)
counted_lines lines = map (λ line. (count_of lines line, line)) (new_texts [] lines)

-- the first `top` of the distinct lines with their counts: the most frequent first, and equal counts in the
-- order of the lines' bytes. The counts of all distinct lines add up to the number of lines.
abbrev pub IsCountsReport : List Text → ℕ → List ℕ → Type 0
IsCountsReport lines top report =
    (ranked : List (ℕ × Text)) × IsPermutation (counted_lines lines) ranked × IsSorted ranked_cmp ranked × (sum_by (λ pair. pair.0) ranked ≡ length lines)
    × (report ≡ flat_map count_line (take top ranked))

-- the text of a refused line is absent, and when memory may run out for it is as `RefusesNew` has it; or the line is
-- not its own text, and memory ran out
abbrev pub RefusesNewLine : {A : Type 0} → InternerView → Vec ℕ A → Text → LineError → Type 0
RefusesNewLine now counts line (Refused number error) = RefusesNew now counts (text_of line) error ⊎ ((error ≡ FailedAllocation) × (is_own_text line ≡ false))
RefusesNewLine now counts line (NotText number) = Unit {0}

-- the lines are let in, and these are the counts of their texts
abbrev pub CountsLines : Bool → List Text → (list : List Text) → (counts : List ℕ) → Type 0
CountsLines only lines list counts = AreLetIn only lines × AreCounts (line_texts lines) list counts

-- why lines were not counted, and what is left of the input then. If a read failed, all lines that were read as a whole
-- were counted
abbrev pub CountingError : Bool → ℕ → List Text → Option (List ℕ) → RunError → Type 0
CountingError only limit lines after (Line error) = (n : ℕ) × IsErrorAfter only limit lines n error
CountingError only limit lines after TooManyLines = AreTooMany (length lines)
CountingError only limit lines after ReadFailed = (n : ℕ) × AreTaken only limit (take n lines) × FailsAfter lines n after
CountingError only limit lines after WriteFailed = ⊥
CountingError only limit lines after ReaderGone = ⊥
CountingError only limit lines after (Column column error) = ⊥

-- the same error, and if it is that of a line, of the line with this number
abbrev pub run_error_at : RunError → ℕ → RunError
run_error_at (Line error) number = Line (numbered error number)
run_error_at TooManyLines number = TooManyLines
run_error_at ReadFailed number = ReadFailed
run_error_at WriteFailed number = WriteFailed
run_error_at ReaderGone number = ReaderGone
run_error_at (Column column error) number = Column column error

-- why the next of these lines were not encoded, after earlier ones of which there are `before`: as `StopsEncoding` has it,
-- but lines are numbered from the first of all. Or all lines are too many
abbrev pub StopsRound : {A : Type 0} → (before : ℕ) → Bool → InternerView → List Text → InternerView → Vec ℕ A → Option (List ℕ) → RunError → Type 0
StopsRound before only old lines new codes left error =
    ((error ≡ TooManyLines) × AreTooMany (before + length lines))
    ⊎ ((fault : RunError) × (error ≡ run_error_at fault (before + length codes.items + 1)) × StopsEncoding only None old lines [] new codes left fault)

-- the counts, with zeros for more texts, so that there are this number of counts
abbrev pub grown_to : ℕ → List ℕ → List ℕ
grown_to texts counts = take texts counts ++ replicate (texts - length counts) 0

-- why the codes of a round were not counted: there are too many lines, of which this number was encoded; or out of memory
abbrev pub StopsCountingRound : ℕ → RunError → Type 0
StopsCountingRound number error = ((error ≡ TooManyLines) × AreTooMany number) ⊎ (error ≡ Line (Refused 0 FailedAllocation))

-- nothing was written, or a beginning of a report
abbrev pub IsBegun : List Text → ℕ → List ℕ → Type 0
IsBegun lines top part = (part ≡ []) ⊎ ((whole : List ℕ) × IsCountsReport lines top whole × Begins part whole)

-- how a run ends with an error after it has written the part, and what is left of the input then. Nothing was written
-- unless all lines were counted
abbrev pub CountsError : Bool → ℕ → List Text → ℕ → Option (List ℕ) → List ℕ → RunError → Type 0
CountsError only limit lines top after part (Line error) = (part ≡ []) × CountingError only limit lines after (Line error)
CountsError only limit lines top after part TooManyLines = (part ≡ []) × CountingError only limit lines after TooManyLines
CountsError only limit lines top after part ReadFailed = (part ≡ []) × CountingError only limit lines after ReadFailed
CountsError only limit lines top after part WriteFailed = IsBegun lines top part
CountsError only limit lines top after part ReaderGone = IsBegun lines top part
CountsError only limit lines top after part (Column column error) = ⊥

-- how a run of `counts` ends: without an error, all lines are let in, a new interner with this limit takes their
-- texts, and the part is their report
abbrev pub CountsEnd : List ℕ → Bool → ℕ → ℕ → Option (List ℕ) → List ℕ → Result (Unit {0}) RunError → Type 0
CountsEnd input only limit top after part result =
    MatchResult result (λ _. AreTaken only limit (lines_of input) × IsCountsReport (lines_of input) top part) (CountsError only limit (lines_of input) top after part)

-- the same with these settings
abbrev pub CountsEnds : Settings → Option (List ℕ) → Result (Unit {0}) RunError → List ℕ → List ℕ → Type 0
CountsEnds settings after result input part = CountsEnd input settings.only_utf8 settings.limit settings.top after part result
