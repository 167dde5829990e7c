use Rattle.lasso_shared.proofs.CallerLaws.{answered_keys_resolve}
use Rattle.lasso_shared.proofs.laws.callers.answered_keys_resolve.Goals as goal

pub returns : goal.returns
returns g c = answered_keys_resolve g.K.Key.key_at g.K.Key.number (λ n k at. (g.met.K.Key.made n k at).2)
