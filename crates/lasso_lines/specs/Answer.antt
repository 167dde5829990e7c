-- What a call that writes answers does to the interner and the writer, and the faults with which it ends.
use Rattle.std.specs.Prelude.{ℕ, ◌≡◌, List, [], ◌∷◌, Result, Ok, Err, IfErr, MatchResult}
use Rattle.lasso_parts.specs.declared.util.LassoErrorKind.TheVariants.{FailedAllocation}
use Rattle.lasso_parts.specs.Held.{Held}
use Rattle.lasso_lines.specs.Stream.{Begins}
use Rattle.lasso_lines.specs.Report.{after_line, line_report}
use Rattle.lasso_lines.specs.declared.fault.RunFault.{RunFault}
use Rattle.lasso_lines.specs.declared.fault.RunFault.TheVariants.{Refused, NotText, Usage, ReadFailed, WriteFailed}

-- the number of failed reads in a call with this result
abbrev pub failed_reads : {X : Type 0} → Result X RunFault → ℕ
failed_reads (Ok _) = 0
failed_reads (Err ReadFailed) = 1
failed_reads (Err _) = 0

-- the number of failed writes in a call with this result
abbrev pub failed_writes : {X : Type 0} → Result X RunFault → ℕ
failed_writes (Ok _) = 0
failed_writes (Err WriteFailed) = 1
failed_writes (Err _) = 0

-- all bytes are written; or a write failed, and the part is a beginning of them
abbrev pub WritesAll : List ℕ → Result (Unit {0}) RunFault → List ℕ → Type 0
WritesAll bytes result part = MatchResult result (λ _. part ≡ bytes) (λ fault. (fault ≡ WriteFailed) × Begins part bytes)

-- why a line fails: it is faulty, or memory ran out, and nothing is written; or it is not faulty, but a
-- write failed, and the part is a beginning of its answer
pub data LineFails (before : Held) (number : ℕ) (line : List ℕ) (part : List ℕ) : RunFault → Type 0 where
  faulty : (fault : RunFault) → after_line before number line ≡ Err fault → part ≡ [] → LineFails before number line part fault
  no_memory : part ≡ [] → LineFails before number line part (Refused number FailedAllocation)
  not_written : (after : Held) → after_line before number line ≡ Ok after → Begins part (line_report before line) → LineFails before number line part WriteFailed

-- the line is interned, and its answer is written; or the line fails
abbrev pub AnswersLine : Held → ℕ → List ℕ → Result (Unit {0}) RunFault → Held → List ℕ → Type 0
AnswersLine before number line result after part = MatchResult result
    (λ _. (after_line before number line ≡ Ok after) × (part ≡ line_report before line))
    (LineFails before number line part)

-- if a write failed, this holds
abbrev pub OnWriteFailed : {X : Type 0} → Result X RunFault → Type 0 → Type 0
OnWriteFailed result X = IfErr result (λ fault. fault ≡ WriteFailed → X)

-- a read or a write failed
abbrev pub IsStreamFault : RunFault → Type 0
IsStreamFault ReadFailed = Unit {0}
IsStreamFault WriteFailed = Unit {0}
IsStreamFault _ = ⊥

-- a line is refused or is not UTF-8, or a write failed
abbrev pub IsAnswerFault : RunFault → Type 0
IsAnswerFault ReadFailed = ⊥
IsAnswerFault Usage = ⊥
IsAnswerFault _ = Unit {0}

-- a read failed; or out of memory at no line, as line 0
abbrev pub IsInputFault : RunFault → Type 0
IsInputFault (Refused number error) = (number ≡ 0) × (error ≡ FailedAllocation)
IsInputFault ReadFailed = Unit {0}
IsInputFault _ = ⊥

-- a write failed; or out of memory at no line, as line 0
abbrev pub IsEndFault : RunFault → Type 0
IsEndFault (Refused number error) = (number ≡ 0) × (error ≡ FailedAllocation)
IsEndFault WriteFailed = Unit {0}
IsEndFault _ = ⊥

-- a line is not UTF-8
abbrev pub IsTextFault : RunFault → Type 0
IsTextFault (NotText number) = Unit {0}
IsTextFault _ = ⊥

-- a line is refused or is not UTF-8; or out of memory
abbrev pub IsLineFault : RunFault → Type 0
IsLineFault (Refused number error) = Unit {0}
IsLineFault (NotText number) = Unit {0}
IsLineFault _ = ⊥

-- the lines of bytes without a line feed: one, or none if there are no bytes
abbrev pub last_lines : List ℕ → List (List ℕ)
last_lines [] = []
last_lines (b ∷ bytes) = (b ∷ bytes) ∷ []
