use Rattle.lasso_parts.proofs.IndexLaws.{located}
use Rattle.lasso_parts.proofs.index.Index.locate.Goals as goal

pub returns-clause-whole : goal.returns-clause-whole
returns-clause-whole g c = λ whole. located _ _ _ _ _ whole c.search.ensures.found c.search.ensures.missing
