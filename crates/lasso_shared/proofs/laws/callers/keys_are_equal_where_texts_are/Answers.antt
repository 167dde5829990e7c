use Rattle.lasso_shared.proofs.CallerLaws.{keys_are_equal_where_texts_are}
use Rattle.lasso_shared.proofs.laws.callers.keys_are_equal_where_texts_are.Goals as goal

pub returns : goal.returns
returns g c = keys_are_equal_where_texts_are g.K.Key.key_at g.K.Key.number (λ n k at. (g.met.K.Key.made n k at).2)
