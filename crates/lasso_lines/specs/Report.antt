-- What a run writes, and how it ends. The report of an input under a limit interns its lines in order,
-- beginning with the empty list and `fresh 4096 limit`, with `Spur` keys. For each line it has the position
-- of its text, a space, the line and a line feed. It ends with the first line that is not UTF-8 or that
-- interning refuses; if no line is faulty, a last line says how many texts and how many bytes of usage there
-- are.
use Rattle.std.specs.Prelude.{ℕ, zero, suc, ◌≡◌, ◌<◌, ◌+◌, ◌⊎◌, cond, List, [], ◌∷◌, ◌++◌, length, Option, Some, None, Result, Ok, Err, MatchResult, codes, decimal}
use Rattle.std.specs.Str.{is_utf8}
use Rattle.lasso_parts.specs.Held.{Held}
use Rattle.lasso_parts.specs.declared.util.LassoError.{LassoError}
use Rattle.lasso_parts.specs.declared.util.LassoErrorKind.TheVariants.{FailedAllocation}
use Rattle.lasso_single.specs.Intern.{interned, interned_position}
use Rattle.lasso_single.specs.Interner.{InternerView, made_with}
use Rattle.lasso_input.specs.Lines.{lines_of}
use Rattle.lasso_single.specs.Coding.{spur_at}
use Rattle.lasso_lines.specs.Stream.{Begins}
use Rattle.lasso_lines.specs.declared.fault.RunFault.{RunFault}
use Rattle.lasso_lines.specs.declared.fault.RunFault.TheVariants.{Refused, NotText, Usage, ReadFailed, WriteFailed}

-- what the interner holds
abbrev pub held_by : InternerView → Held
held_by i = record { texts = i.texts; account = i.account }

-- the result, with an error as the refusal of the line of this number
abbrev pub with_number : ℕ → Result Held LassoError → Result Held RunFault
with_number number (Ok after) = Ok after
with_number number (Err error) = Err (Refused number error)

-- the bytes of the interner's first bucket
abbrev pub first_bytes : ℕ
first_bytes = 4096

-- what the interner holds after the line of this number, or the line's fault
abbrev pub after_line : Held → ℕ → List ℕ → Result Held RunFault
after_line held number line = cond (is_utf8 line) (with_number number (interned spur_at first_bytes held line)) (Err (NotText number))

-- the answer to a line: the position of its text, a space, the line and a line feed
abbrev pub line_report : Held → List ℕ → List ℕ
line_report held line = decimal (interned_position held.texts line) ++ (32 ∷ (line ++ 10 ∷ []))

-- the counts: the number of texts, and the bytes of their buckets
abbrev pub last_report : Held → List ℕ
last_report held = decimal (length held.texts) ++ (codes " texts, " ++ (decimal held.account.usage ++ codes " bytes\n"))

-- what goes on from a result, and what from an error
abbrev pub or_else : {X E Y : Type 0} → Result X E → (X → Y) → (E → Y) → Y
or_else (Ok x) f g = f x
or_else (Err e) f g = g e

-- the report of these lines, the first of which has this number: the answers to the lines before the first
-- faulty one, or, if none is faulty, all answers and then the counts
abbrev pub report_from : Held → ℕ → List (List ℕ) → List ℕ
report_from held number [] = last_report held
report_from held number (line ∷ lines) = or_else (after_line held number line) (λ after. line_report held line ++ report_from after (number + 1) lines) (λ _. [])

-- the fault of the first faulty line
abbrev pub fault_from : Held → ℕ → List (List ℕ) → Option RunFault
fault_from held number [] = None
fault_from held number (line ∷ lines) = or_else (after_line held number line) (λ after. fault_from after (number + 1) lines) (λ fault. Some fault)

-- how many of these lines a run reaches at most: those before the first faulty one, and that one
abbrev pub reach_from : Held → ℕ → List (List ℕ) → ℕ
reach_from held number [] = 0
reach_from held number (line ∷ lines) = or_else (after_line held number line) (λ after. 1 + reach_from after (number + 1) lines) (λ _. 1)

-- the answers to the first `count` of these lines; they stop before a faulty line
abbrev pub answers_from : Held → ℕ → List (List ℕ) → ℕ → List ℕ
answers_from held number [] count = []
answers_from held number (line ∷ lines) zero = []
answers_from held number (line ∷ lines) (suc count) = or_else (after_line held number line) (λ after. line_report held line ++ answers_from after (number + 1) lines count) (λ _. [])

module _ (held : Held) (first : ℕ) (lines : List (List ℕ)) (part : List ℕ) where
  -- memory ran out at the line of this number, no line before it is faulty, and the part is exactly the
  -- answers to the lines before it; or memory ran out before the first line, and nothing is written
  abbrev pub LacksMemory : ℕ → Type 0
  LacksMemory number =
      ((before : ℕ) × (number ≡ first + before) × (before < reach_from held first lines) × (part ≡ answers_from held first lines before))
      ⊎ ((number ≡ 0) × (first ≡ 1) × (part ≡ []))

  -- the fault is that of the first faulty line, and the part is the report; or memory ran out
  abbrev pub IsLineFault : RunFault → ℕ → Type 0
  IsLineFault fault number =
      ((fault_from held first lines ≡ Some fault) × (part ≡ report_from held first lines))
      ⊎ ((fault ≡ Refused number FailedAllocation) × LacksMemory number)

  -- how a run ends with a fault: with that of the first faulty line, if the report up to it was written; out
  -- of memory, as `LacksMemory` says; with a failed read or write, if a beginning of the report was written
  abbrev pub EndsWithFault : RunFault → Type 0
  EndsWithFault (Refused number error) = IsLineFault (Refused number error) number
  EndsWithFault (NotText number) = IsLineFault (NotText number) number
  EndsWithFault Usage = ⊥
  EndsWithFault ReadFailed = Begins part (report_from held first lines)
  EndsWithFault WriteFailed = Begins part (report_from held first lines)

  -- how a run over these lines ends that has written the part and returns the result; the first line has
  -- the number `first`. If the result is Ok, no line is faulty, and the part is the report
  abbrev pub EndsFrom : Result (Unit {0}) RunFault → Type 0
  EndsFrom result = MatchResult result (λ _. (fault_from held first lines ≡ None) × (part ≡ report_from held first lines)) EndsWithFault

-- a new interner of default capacity with this limit
abbrev pub new_held : ℕ → Held
new_held limit = held_by (made_with first_bytes limit)

-- what a run over these bytes writes, unless a read or a write fails or memory runs out
abbrev pub report : List ℕ → ℕ → List ℕ
report bytes limit = report_from (new_held limit) 1 (lines_of bytes)

-- how a run over these bytes ends
abbrev pub Ends : List ℕ → ℕ → List ℕ → Result (Unit {0}) RunFault → Type 0
Ends bytes limit part result = EndsFrom (new_held limit) 1 (lines_of bytes) part result
