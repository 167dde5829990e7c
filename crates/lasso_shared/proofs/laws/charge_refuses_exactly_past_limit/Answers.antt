use Rattle.lasso_log.proofs.Legal.{refused_exactly}
use Rattle.lasso_shared.proofs.laws.charge_refuses_exactly_past_limit.Goals as goal

pub returns : goal.returns
returns c doubling usage limit n ne = refused_exactly doubling usage limit n ne
