use denote.Param.Send.{IsSync}
use Rattle.lasso_log.proofs.Crossing.{lent_sync}
use Rattle.lasso_log.specs.contracts.shared_memory.rights.Lent.{the_row}

pub sync : IsSync the_row
sync = lent_sync
