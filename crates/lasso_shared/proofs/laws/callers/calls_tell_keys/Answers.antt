use Rattle.lasso_shared.proofs.CallerLaws.{tells_keys}
use Rattle.lasso_shared.proofs.laws.callers.calls_tell_keys.Goals as goal

pub returns : goal.returns
returns g c = tells_keys g.K.Key.key_at
