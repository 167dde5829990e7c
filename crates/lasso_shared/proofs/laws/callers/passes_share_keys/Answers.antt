use Rattle.lasso_shared.proofs.CallerLaws.{passes_share}
use Rattle.lasso_shared.proofs.laws.callers.passes_share_keys.Goals as goal

pub returns : goal.returns
returns g c = passes_share g.K.Key.key_at
