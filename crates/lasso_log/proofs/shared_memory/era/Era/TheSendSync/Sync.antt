use denote.Param.Send.{IsSync}
use Rattle.lasso_log.proofs.Crossing.{era_sync}
use Rattle.lasso_log.specs.contracts.shared_memory.era.Era.{the_row}

pub sync : IsSync the_row
sync = era_sync
