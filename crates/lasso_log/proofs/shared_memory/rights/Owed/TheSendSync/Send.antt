use denote.Param.Send.{IsSend}
use Rattle.lasso_log.proofs.Crossing.{owed_send}
use Rattle.lasso_log.specs.contracts.shared_memory.rights.Owed.{the_row}

pub send : IsSend the_row
send = owed_send
