-- Which line a fault names, in a run with workers.
use Rattle.std.specs.Prelude.{ℕ, ◌≡◌, ◌+◌, ◌≤◌, ◌⊎◌, cond, List, [], ◌∷◌, length, Option, Some, None}
use Rattle.std.specs.Str.{is_utf8}
use Rattle.lasso_parts.specs.Texts.{Text}
use Rattle.lasso_parts.specs.declared.util.LassoErrorKind.TheVariants.{FailedAllocation}
use Rattle.lasso_lines.specs.declared.fault.RunFault.{RunFault}
use Rattle.lasso_lines.specs.declared.fault.RunFault.TheVariants.{Refused, NotText, Usage, ReadFailed, WriteFailed}

-- the number of the first line that is not UTF-8, if the first of these lines has this number
abbrev pub first_not_text : ℕ → List Text → Option ℕ
first_not_text number [] = None
first_not_text number (line ∷ lines) = cond (is_utf8 line) (first_not_text (number + 1) lines) (Some number)

-- each of the lines is UTF-8
abbrev pub AreTexts : List Text → Type 0
AreTexts lines = first_not_text 1 lines ≡ None

-- the line of this number, counted from 1, is the first that is not UTF-8
abbrev pub IsFirstNotText : List Text → ℕ → Type 0
IsFirstNotText lines number = first_not_text 1 lines ≡ Some number

-- a run with workers over these lines may end with the fault: `NotText` names the first line that is not
-- UTF-8; `Refused` has the number of a line, or 0, and all lines are UTF-8 or memory ran out; or a read or
-- a write failed
abbrev pub IsFaultOf : List Text → RunFault → Type 0
IsFaultOf lines (Refused number error) = (number ≤ length lines) × (AreTexts lines ⊎ (error ≡ FailedAllocation))
IsFaultOf lines (NotText number) = IsFirstNotText lines number
IsFaultOf lines Usage = ⊥
IsFaultOf lines ReadFailed = Unit {0}
IsFaultOf lines WriteFailed = Unit {0}
