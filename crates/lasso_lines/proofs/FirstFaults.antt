-- The first line that is not UTF-8.
--
-- The search goes on after a line that is UTF-8, with the next number. So if all lines before a line are
-- UTF-8 and it is not, it is the first such line; and if the search reaches the end, there is none. A line
-- that is reached is one of the lines, so its number is at most the number of lines.
use Rattle.std.proofs.Common.{ℕ, ◌≡◌, ◌+◌, ◌≤◌, ◌⊎◌, inl, inr, cond, List, ◌∷◌, ◌++◌, length, Bool, true, false, Option, Some, None, Result, Ok, Err, ap, sym, subst, ◌∙◌, refl, arith, length-append}
use Rattle.std.specs.Prelude.{IfErr, OnOk}
use Rattle.std.specs.Str.{IsUtf8, is_utf8}
use Rattle.std.proofs.lemmas.Str.{IsUtf8-from_is_utf8, is_utf8-from_IsUtf8}
use Rattle.std.proofs.lemmas.Bool.{false_from_ne_true}
use Rattle.lasso_parts.specs.Texts.{Text}
use Rattle.lasso_parts.specs.declared.util.LassoErrorKind.TheVariants.{FailedAllocation}
use Rattle.lasso_log.specs.History.{History, Totals}
use Rattle.lasso_lines.specs.Answer.{IsInputFault, IsEndFault}
use Rattle.lasso_lines.specs.LineFaults.{first_not_text, AreTexts, IsFaultOf}
use Rattle.lasso_lines.specs.Shares.{IsRefusalOf}
use Rattle.lasso_lines.specs.declared.fault.RunFault.{RunFault}
use Rattle.lasso_lines.specs.declared.fault.RunFault.TheVariants.{Refused, NotText, Usage, ReadFailed, WriteFailed}

-- a line that is UTF-8
pub after_text : (number : ℕ) (line : Text) (lines : List Text) → IsUtf8 line → first_not_text number (line ∷ lines) ≡ first_not_text (number + 1) lines
after_text number line lines utf8 = ap (λ b. cond b (first_not_text (number + 1) lines) (Some number)) (is_utf8-from_IsUtf8 line utf8)

-- and one that is not
pub at_not_text : (number : ℕ) (line : Text) (lines : List Text) → ¬ (IsUtf8 line) → first_not_text number (line ∷ lines) ≡ Some number
at_not_text number line lines not_utf8 = ap (λ b. cond b (first_not_text (number + 1) lines) (Some number)) (false_from_ne_true _ (λ e. not_utf8 (IsUtf8-from_is_utf8 line e)))

-- if all lines are UTF-8, so is the first
utf8_if : (is_text : Bool) (line : Text) (number : ℕ) (later : Option ℕ) → is_utf8 line ≡ is_text → cond is_text later (Some number) ≡ None → IsUtf8 line × (later ≡ None)
utf8_if true line number later e is = (IsUtf8-from_is_utf8 line e, is)
utf8_if false line number later e is = let no : Some number ≡ None = is in absurd cc

pub first_utf8 : (number : ℕ) (line : Text) (lines : List Text) → first_not_text number (line ∷ lines) ≡ None → IsUtf8 line × (first_not_text (number + 1) lines ≡ None)
first_utf8 number line lines none = utf8_if (is_utf8 line) line number (first_not_text (number + 1) lines) refl none

-- ---- the faults of a run

-- a refused line, if all lines are UTF-8
pub refusal_is : (o : Totals) (past : History) (lines : List Text) (fault : RunFault) → AreTexts lines → IsRefusalOf o past lines fault → IsFaultOf lines fault
refusal_is o past lines (Refused number error) texts (inl lacks) = (omega (arith, lacks.0), inl texts)
refusal_is o past lines (Refused number error) texts (inr why) = (omega (arith, why.0.1, why.0.2), inl texts)
refusal_is o past lines (NotText number) texts why = absurd why
refusal_is o past lines Usage texts why = absurd why
refusal_is o past lines ReadFailed texts why = absurd why
refusal_is o past lines WriteFailed texts why = absurd why

pub share_fault_is : {X : Type 0} (o : Totals) (past : History) (lines : List Text) (result : Result X RunFault) → AreTexts lines → IfErr result (IsRefusalOf o past lines) → IfErr result (IsFaultOf lines)
share_fault_is o past lines (Ok done) texts none = tt
share_fault_is o past lines (Err fault) texts why = refusal_is o past lines fault texts why

-- out of memory for the interner
pub no_interner : (lines : List Text) (fault : RunFault) → fault ≡ Refused 0 FailedAllocation → IsFaultOf lines fault
no_interner lines fault is = subst (IsFaultOf lines) (sym is) (omega arith, inr refl)

-- a read failed, or out of memory for the input
pub input_fault_is : (lines : List Text) (fault : RunFault) → IsInputFault fault → IsFaultOf lines fault
input_fault_is lines (Refused number error) lacks = (omega (arith, lacks.0), inr lacks.1)
input_fault_is lines (NotText number) none = absurd none
input_fault_is lines Usage none = absurd none
input_fault_is lines ReadFailed failed = tt
input_fault_is lines WriteFailed none = absurd none

-- a write failed, or out of memory for the output
pub end_fault_is : (lines : List Text) (result : Result (Unit {0}) RunFault) → IfErr result IsEndFault → IfErr result (IsFaultOf lines)
end_fault_is lines (Ok done) none = tt
end_fault_is lines (Err (Refused number error)) lacks = (omega (arith, lacks.0), inr lacks.1)
end_fault_is lines (Err (NotText number)) none = absurd none
end_fault_is lines (Err Usage) none = absurd none
end_fault_is lines (Err ReadFailed) none = absurd none
end_fault_is lines (Err WriteFailed) failed = tt

-- what is true anyway is true if the result is Ok
pub where_ok : {X E : Type 0} (P : Type 0) (result : Result X E) → P → OnOk result P
where_ok P (Ok x) holds = holds
where_ok P (Err e) holds = tt
