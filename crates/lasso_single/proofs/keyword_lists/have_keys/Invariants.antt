use Rattle.lasso_parts.specs.Texts.{Fits}
use Rattle.lasso_single.proofs.keyword_lists.have_keys.Given as goal

abbrev pub invariant-loop-position : goal.invariant-loop-position
invariant-loop-position g l = Fits g.K.Key.key_at l.position
