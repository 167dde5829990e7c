-- What `distinct` writes, and how it ends.
use Rattle.std.specs.Prelude.{ℕ, ◌≡◌, ◌≤◌, ◌⊎◌, List, [], ◌∷◌, ◌++◌, Bool, length, flat_map, take, Option, Some, Result, Ok, MatchResult, is_some, if◌then◌else◌}
use Rattle.std.specs.Io.{StopsAt}
use Rattle.lasso_parts.specs.Texts.{Text, position_of}
use Rattle.lasso_parts.specs.declared.util.LassoErrorKind.TheVariants.{FailedAllocation}
use Rattle.lasso_single.specs.Filling.{extend}
use Rattle.lasso_single.specs.Intern.{InternsIn}
use Rattle.lasso_single.specs.Interner.{InternerView, made_with}
use Rattle.lasso_single.specs.Coding.{spur_at}
use Rattle.lasso_input.specs.Lines.{lines_of}
use Rattle.lasso_input.specs.Texts.{text_of}
use Rattle.lasso_columns.specs.Parts.{new_texts}
use Rattle.lasso_columns.specs.declared.faults.LineError.{LineError}
use Rattle.lasso_columns.specs.declared.faults.LineError.TheVariants.{Refused}
use Rattle.lasso_codes.specs.Errors.{AreTooMany}
use Rattle.lasso_codes.specs.Limits.{line_texts, AreLetIn, AreTaken, IsLetIn, IsLineFault, IsNextError, LacksMemory}
use Rattle.lasso_codes.specs.Streams.{Begins}
use Rattle.lasso_codes.specs.declared.error.RunError.{RunError}
use Rattle.lasso_codes.specs.declared.error.RunError.TheVariants.{Line, TooManyLines, ReadFailed, WriteFailed, ReaderGone, Column}

-- the line with a line feed after it
abbrev pub with_feed : List ℕ → List ℕ
with_feed line = line ++ 10 ∷ []

-- each distinct line once, in the order of first occurrences, with a line feed
abbrev pub distinct_report : List Text → List ℕ
distinct_report lines = flat_map with_feed (new_texts [] lines)

-- what is written for a line: the line and a line feed if its text is new, and else nothing
abbrev pub passed : List Text → Text → List ℕ
passed texts line = if is_some (position_of texts (text_of line)) then [] else with_feed line

-- the line is refused or not let in, and nothing was written; or it is let in, and a write failed. When memory may run out is as
-- `LacksMemory` has it
abbrev pub PassError : Bool → InternerView → Text → ℕ → List ℕ → RunError → Type 0
PassError only now line number part (Line error) = (part ≡ []) × IsLineFault only now line number error × LacksMemory now line error
PassError only now line number part TooManyLines = ⊥
PassError only now line number part ReadFailed = ⊥
PassError only now line number part WriteFailed = IsLetIn only line × Begins part (passed now.texts line)
PassError only now line number part ReaderGone = IsLetIn only line × Begins part (passed now.texts line)
PassError only now line number part (Column column error) = ⊥

-- the line was interned, and written if it was new
abbrev pub PassesLine : Bool → InternerView → Text → ℕ → List ℕ → InternerView → Result (Unit {0}) RunError → Type 0
PassesLine only before line number part after result = MatchResult result
    (λ _. IsLetIn only line × ((key : ℕ) × InternsIn {K = ℕ} spur_at before (text_of line) (Ok key) after) × (part ≡ passed before.texts line))
    (PassError only before line number part)

-- the first n lines are let in and were interned with this limit, and the next line was not. Line 0: out of
-- memory outside of a line, and n is 0
abbrev pub IsErrorAfter : Bool → ℕ → List Text → ℕ → LineError → Type 0
IsErrorAfter only limit lines n error =
    ((error ≡ Refused 0 FailedAllocation) × (n ≡ 0))
    ⊎ (AreLetIn only (take n lines) × ((now : InternerView) × extend spur_at (made_with 4096 limit) (line_texts (take n lines)) (Ok tt) now × IsNextError only now lines n error))

-- a read failed after the first n lines of the input: what was read is these lines with their line feeds, and
-- then a part of the next line. Or all lines were read
abbrev pub FailsAt : List ℕ → ℕ → Option (List ℕ) → Type 0
FailsAt input n after =
    (left : List ℕ) × (after ≡ Some left)
    × (((begun : List ℕ) × (input ≡ flat_map with_feed (take n (lines_of input)) ++ (begun ++ left)) × StopsAt begun 10) ⊎ ((n ≡ length (lines_of input)) × (left ≡ [])))

-- how a run over this input ends with an error after it has written the part, and what is left of the input
-- then. After a failed write the part is a beginning of the report; after another error it is the report of the
-- lines before it
abbrev pub DistinctError : List ℕ → Bool → ℕ → Option (List ℕ) → List ℕ → RunError → Type 0
DistinctError input only limit after part (Line error) = let lines = lines_of input in (n : ℕ) × (part ≡ distinct_report (take n lines)) × IsErrorAfter only limit lines n error
DistinctError input only limit after part TooManyLines =
    let lines = lines_of input in
    (n : ℕ) × (part ≡ distinct_report (take n lines)) × AreTooMany n × (n ≤ length lines) × AreTaken only limit (take n lines)
DistinctError input only limit after part ReadFailed =
    let lines = lines_of input in
    (n : ℕ) × (part ≡ distinct_report (take n lines)) × AreTaken only limit (take n lines) × FailsAt input n after
DistinctError input only limit after part WriteFailed = Begins part (distinct_report (lines_of input))
DistinctError input only limit after part ReaderGone = Begins part (distinct_report (lines_of input))
DistinctError input only limit after part (Column column error) = ⊥

-- how a run of `distinct` ends that has written the part: without an error, all lines are let in, a new interner
-- with this limit takes their texts, and the part is their report
abbrev pub DistinctEnd : List ℕ → Bool → ℕ → Option (List ℕ) → List ℕ → Result (Unit {0}) RunError → Type 0
DistinctEnd input only limit after part result =
    MatchResult result (λ _. AreTaken only limit (lines_of input) × (part ≡ distinct_report (lines_of input))) (DistinctError input only limit after part)

-- the same, of the input and the part
abbrev pub DistinctEnds : Bool → ℕ → Option (List ℕ) → Result (Unit {0}) RunError → List ℕ → List ℕ → Type 0
DistinctEnds only limit after result input part = DistinctEnd input only limit after part result
