use Rattle.lasso_parts.proofs.IndexLaws.{located}
use Rattle.lasso_parts.proofs.index.Index.locate_once.Goals as goal

pub returns-clause-whole : goal.returns-clause-whole
returns-clause-whole g c = λ whole. located _ _ _ _ _ whole c.search_group.ensures.found c.search_group.ensures.missing
