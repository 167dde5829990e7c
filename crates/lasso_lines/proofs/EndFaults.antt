-- What the fault of an answer, or of a read or a write, says of the counts of failed calls and of the run's result.
use Rattle.std.proofs.Common.{ℕ, ◌≡◌, ◌+◌, Result, Ok, Err, IfErr, subst}
use Rattle.lasso_lines.specs.Answer.{IsAnswerFault, IsStreamFault, failed_reads}
use Rattle.lasso_lines.specs.declared.fault.RunFault.{RunFault}
use Rattle.lasso_lines.specs.declared.fault.RunFault.TheVariants.{Refused, NotText, Usage, ReadFailed, WriteFailed}

-- a fault of an answer counts no failed read
pub answer_reads : (a b : ℕ) (result : Result (Unit {0}) RunFault) → IfErr result IsAnswerFault → b ≡ a + 0 → b ≡ a + failed_reads result
answer_reads a b (Ok done) is counted = counted
answer_reads a b (Err (Refused number error)) is counted = counted
answer_reads a b (Err (NotText number)) is counted = counted
answer_reads a b (Err Usage) is counted = absurd is
answer_reads a b (Err ReadFailed) is counted = absurd is
answer_reads a b (Err WriteFailed) is counted = counted

pub answer_no_read : (result : Result (Unit {0}) RunFault) → IfErr result IsAnswerFault → ¬ (result ≡ Err ReadFailed)
answer_no_read result is failed = subst (λ (r : Result (Unit {0}) RunFault). IfErr r IsAnswerFault) failed is

pub answer_no_usage : (result : Result (Unit {0}) RunFault) → IfErr result IsAnswerFault → ¬ (result ≡ Err Usage)
answer_no_usage result is usage = subst (λ (r : Result (Unit {0}) RunFault). IfErr r IsAnswerFault) usage is

pub stream_no_usage : (result : Result (Unit {0}) RunFault) → IfErr result IsStreamFault → ¬ (result ≡ Err Usage)
stream_no_usage result is usage = subst (λ (r : Result (Unit {0}) RunFault). IfErr r IsStreamFault) usage is
