-- How many reads and writes failed, call by call. A call that returns Ok counts none, and neither does one
-- that fails with another fault.
use Rattle.std.proofs.Common.{ℕ, ◌≡◌, ◌+◌, Err, refl, arith}
use Rattle.lasso_lines.specs.Answer.{failed_writes}
use Rattle.lasso_lines.specs.declared.fault.RunFault.{RunFault}
use Rattle.lasso_lines.specs.declared.fault.RunFault.TheVariants.{Refused, NotText, Usage, ReadFailed, WriteFailed}

-- a call that counts no failure, and then one that counts n
pub then_failed : (a b c n : ℕ) → b ≡ a + 0 → c ≡ b + n → c ≡ a + n
then_failed a b c n first second = omega arith

-- the count is as it was
pub none_failed : (a b : ℕ) → b ≡ a → b ≡ a + 0
none_failed a b same = omega arith

-- another fault than a failed write counts no failed write
pub none_written : (a : ℕ) (fault : RunFault) → ¬ (fault ≡ WriteFailed) → a ≡ a + failed_writes {X = Unit {0}} (Err fault)
none_written a (Refused number error) other = none_failed a a refl
none_written a (NotText number) other = none_failed a a refl
none_written a Usage other = none_failed a a refl
none_written a ReadFailed other = none_failed a a refl
none_written a WriteFailed other = absurd (other refl)
