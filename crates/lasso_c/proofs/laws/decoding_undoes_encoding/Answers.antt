use Rattle.lasso_c.proofs.RoundTrip.{undoes}
use Rattle.lasso_c.proofs.laws.decoding_undoes_encoding.Goals as goal

pub returns : goal.returns
returns c = undoes
