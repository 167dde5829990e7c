use denote.Param.Send.{IsSend}
use Rattle.lasso_log.proofs.Crossing.{free_send}
use Rattle.lasso_log.specs.contracts.shared_memory.rights.Free.{the_row}

pub send : IsSend the_row
send = free_send
