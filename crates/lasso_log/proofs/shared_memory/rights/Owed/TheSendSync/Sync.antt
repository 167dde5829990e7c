use denote.Param.Send.{IsSync}
use Rattle.lasso_log.proofs.Crossing.{owed_sync}
use Rattle.lasso_log.specs.contracts.shared_memory.rights.Owed.{the_row}

pub sync : IsSync the_row
sync = owed_sync
