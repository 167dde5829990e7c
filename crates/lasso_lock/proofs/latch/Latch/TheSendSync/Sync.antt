-- A latch may be shared by threads where its value may be read by several and go from one to another: what stands beside the word names no thread.
use Rattle.std.proofs.Common.{ℕ, ◌+◌, ◌∷◌}
use base.Fraction.{full_share}
use base.Fml.{Lft}
use base.Shift.{Keyless}
use denote.RattleType.{RattleType}
use denote.Param.Send.{IsSend, IsSync, part_keyless}
use Rattle.core.proofs.atomic.Sent.{chain-Keyless}
use Rattle.lasso_lock.specs.Latches.{Keeping, Stage, out, lent, value_at, stage, known}
use Rattle.lasso_lock.specs.declared.latch.Fits.{Ghosts}
use Rattle.lasso_lock.specs.contracts.latch.Latch.{the_row}

names_no_thread : (R : RattleType) (fits : R.Denot → Type 0) → IsSend R → IsSync R → (b o : ℕ) (t : Keeping) (w : ℕ) (p : Stage R.Denot) → Keyless (stage R fits b o t w p)
names_no_thread R fits s y b o t w out = ((λ _. tt), λ e c. (tt, tt))
names_no_thread R fits s y b o t w (lent a m x) =
    ((λ _. tt), ((λ e c. (tt, tt)), (((λ _. tt), y.shared x b (o + value_at R) (a ∷ t.0)), λ z. ((λ _. tt), part_keyless R s full_share z b (o + value_at R)))))

known_by_all : (R : RattleType) (fits : R.Denot → Type 0) → IsSend R → IsSync R → (b o : ℕ) (κ : Lft) (t : Keeping) → Keyless (known R fits b o t κ)
known_by_all R fits s y b o κ t = ((λ νs. chain-Keyless νs κ t.0), λ w. (tt, names_no_thread R fits s y b o t w))

pub sync : (T G : RattleType) (g : Ghosts T.Denot G.Denot) → IsSend T → IsSync T → IsSync (the_row T G g)
sync T G g s y = record { shared = λ tag b o. known_by_all T (g.fits tag) s y b o }
