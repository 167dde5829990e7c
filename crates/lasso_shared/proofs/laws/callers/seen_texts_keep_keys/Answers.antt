use Rattle.lasso_shared.proofs.CallerLaws.{seen_texts_keep_keys}
use Rattle.lasso_shared.proofs.laws.callers.seen_texts_keep_keys.Goals as goal

pub returns : goal.returns
returns g c = seen_texts_keep_keys g.K.Key.key_at g.K.Key.number (λ n k at. (g.met.K.Key.made n k at).2)
