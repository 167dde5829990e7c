use denote.Param.Send.{IsSend}
use Rattle.lasso_log.proofs.Crossing.{lent_send}
use Rattle.lasso_log.specs.contracts.shared_memory.rights.Lent.{the_row}

pub send : IsSend the_row
send = lent_send
