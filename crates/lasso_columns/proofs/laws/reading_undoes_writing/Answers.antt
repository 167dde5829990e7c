use Rattle.lasso_columns.proofs.LayoutLaws.{undoes_writing}
use Rattle.lasso_columns.proofs.laws.reading_undoes_writing.Goals as goal

pub returns : goal.returns
returns c = undoes_writing
