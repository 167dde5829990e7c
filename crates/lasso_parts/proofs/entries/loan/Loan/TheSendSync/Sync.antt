-- A loan may be shared.
use denote.Param.Send.{IsSync}
use Rattle.lasso_parts.proofs.Crossing.{loan_sync}
use Rattle.lasso_parts.specs.contracts.entries.loan.Loan.{the_row}

pub sync : IsSync the_row
sync = loan_sync
