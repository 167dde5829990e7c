-- What explains the faults of a run with workers.
--
-- Out of memory needs no explanation, so an empty history will do. Any other refused line comes from the
-- workers, and the history that the run's pass has seen explains it.
use Rattle.std.proofs.Common.{ℕ, ◌≡◌, inl, inr, List, [], Result, Ok, Err, refl, sym, subst}
use Rattle.std.specs.Prelude.{IfErr}
use Rattle.lasso_parts.specs.Texts.{Text}
use Rattle.lasso_parts.specs.declared.util.LassoErrorKind.TheVariants.{FailedAllocation}
use Rattle.lasso_log.specs.History.{History, Totals}
use Rattle.lasso_lines.specs.Answer.{IsTextFault, IsInputFault, IsEndFault}
use Rattle.lasso_lines.specs.Explained.{IsExplainedIn, IsExplainedBy}
use Rattle.lasso_lines.specs.Shares.{IsRefusalOf}
use Rattle.lasso_lines.specs.declared.fault.RunFault.{RunFault}
use Rattle.lasso_lines.specs.declared.fault.RunFault.TheVariants.{Refused, NotText, Usage, ReadFailed, WriteFailed}

-- a line is not UTF-8
pub text_explained : (o : Totals) (past : History) (lines : List Text) (fault : RunFault) → IsTextFault fault → IsExplainedIn o past lines fault
text_explained o past lines (Refused number error) none = absurd none
text_explained o past lines (NotText number) not_text = tt
text_explained o past lines Usage none = absurd none
text_explained o past lines ReadFailed none = absurd none
text_explained o past lines WriteFailed none = absurd none

-- a line that the workers report as refused
pub refusal_explained : (o : Totals) (past : History) (lines : List Text) (fault : RunFault) → IsRefusalOf o past lines fault → IsExplainedIn o past lines fault
refusal_explained o past lines (Refused number error) (inl lacks) = inl lacks.1
refusal_explained o past lines (Refused number error) (inr why) = inr why
refusal_explained o past lines (NotText number) none = absurd none
refusal_explained o past lines Usage none = absurd none
refusal_explained o past lines ReadFailed none = absurd none
refusal_explained o past lines WriteFailed none = absurd none

pub share_explained : {X : Type 0} (o : Totals) (past : History) (lines : List Text) (result : Result X RunFault) → IfErr result (IsRefusalOf o past lines) → IfErr result (IsExplainedIn o past lines)
share_explained o past lines (Ok done) none = tt
share_explained o past lines (Err fault) why = refusal_explained o past lines fault why

-- ---- for any limit

-- out of memory for the interner
pub no_interner_explained : (limit : ℕ) (lines : List Text) (fault : RunFault) → fault ≡ Refused 0 FailedAllocation → IsExplainedBy limit lines fault
no_interner_explained limit lines fault is = subst (IsExplainedBy limit lines) (sym is) ([], tt, inl refl)

-- a read failed, or out of memory for the input
pub input_explained : (limit : ℕ) (lines : List Text) (fault : RunFault) → IsInputFault fault → IsExplainedBy limit lines fault
input_explained limit lines (Refused number error) lacks = ([], tt, inl lacks.1)
input_explained limit lines (NotText number) none = absurd none
input_explained limit lines Usage none = absurd none
input_explained limit lines ReadFailed failed = ([], tt, tt)
input_explained limit lines WriteFailed none = absurd none

-- a write failed
pub write_explained : (limit : ℕ) (lines : List Text) (fault : RunFault) → fault ≡ WriteFailed → IsExplainedBy limit lines fault
write_explained limit lines fault is = subst (IsExplainedBy limit lines) (sym is) ([], tt, tt)

-- a write failed, or out of memory for the output
pub end_explained : (limit : ℕ) (lines : List Text) (result : Result (Unit {0}) RunFault) → IfErr result IsEndFault → IfErr result (IsExplainedBy limit lines)
end_explained limit lines (Ok done) none = tt
end_explained limit lines (Err (Refused number error)) lacks = ([], tt, inl lacks.1)
end_explained limit lines (Err (NotText number)) none = absurd none
end_explained limit lines (Err Usage) none = absurd none
end_explained limit lines (Err ReadFailed) none = absurd none
end_explained limit lines (Err WriteFailed) failed = ([], tt, tt)
