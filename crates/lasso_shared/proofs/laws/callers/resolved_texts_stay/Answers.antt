use Rattle.lasso_shared.proofs.CallerLaws.{resolved_texts_stay}
use Rattle.lasso_shared.proofs.laws.callers.resolved_texts_stay.Goals as goal

pub returns : goal.returns
returns g c = resolved_texts_stay g.K.Key.key_at
