use Rattle.lasso_input.specs.Texts.{is_marked}
use Rattle.lasso_input.proofs.escaping.is_marked.Goals as goal

pub returns-clause-value : goal.returns-clause-value
unfolding is_marked
returns-clause-value c = c.starts_with.ensures.value
