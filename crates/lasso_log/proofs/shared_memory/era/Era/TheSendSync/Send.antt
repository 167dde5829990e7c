use denote.Param.Send.{IsSend}
use Rattle.lasso_log.proofs.Crossing.{era_send}
use Rattle.lasso_log.specs.contracts.shared_memory.era.Era.{the_row}

pub send : IsSend the_row
send = era_send
