-- A latch may go to another thread where its value may: its word is a number.
use denote.RattleType.{RattleType}
use denote.Param.Send.{IsSend}
use Rattle.lasso_lock.specs.declared.latch.Fits.{Ghosts}
use Rattle.lasso_lock.specs.contracts.latch.Latch.{the_row}

pub send : (T G : RattleType) (g : Ghosts T.Denot G.Denot) → IsSend T → IsSend (the_row T G g)
send T G g s = record { owned = λ tag vs. ((λ _. tt), λ w x. ((λ _. tt), λ vss. (tt, ((tt, tt), (s.owned x vss.1.0, tt))))); leaving = λ κ tag w. tt }
