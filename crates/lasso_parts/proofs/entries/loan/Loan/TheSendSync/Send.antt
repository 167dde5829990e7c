-- A loan may go to another thread.
use denote.Param.Send.{IsSend}
use Rattle.lasso_parts.proofs.Crossing.{loan_send}
use Rattle.lasso_parts.specs.contracts.entries.loan.Loan.{the_row}

pub send : IsSend the_row
send = loan_send
