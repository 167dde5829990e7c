use Rattle.lasso_log.proofs.Legal.{holds_of_history}
use Rattle.lasso_shared.proofs.laws.legal_histories_hold.Goals as goal

pub returns : goal.returns
returns g c opening h opens legal = holds_of_history g.K.Key.key_at opening h opens legal
