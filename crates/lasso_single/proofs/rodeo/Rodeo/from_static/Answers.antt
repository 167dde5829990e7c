use Rattle.lasso_single.proofs.Differ.{distinct_from}
use Rattle.lasso_single.proofs.rodeo.Rodeo.from_static.Goals as goal

pub of_keywords-requires-clause-distinct : goal.of_keywords-requires-clause-distinct
of_keywords-requires-clause-distinct g c = distinct_from _ c.requires
