use Rattle.lasso_c.proofs.Loading.{undoes_saving}
use Rattle.lasso_c.proofs.laws.loading_undoes_saving.Goals as goal

pub returns : goal.returns
returns c = undoes_saving
