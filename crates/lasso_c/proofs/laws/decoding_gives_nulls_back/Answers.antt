use Rattle.lasso_c.proofs.NullsBack.{gives_nulls_back}
use Rattle.lasso_c.proofs.laws.decoding_gives_nulls_back.Goals as goal

pub returns : goal.returns
returns c = gives_nulls_back
