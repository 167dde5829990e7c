use Rattle.lasso_codes.proofs.RecodedLines.{recoding_keeps_lines_lem}
use Rattle.lasso_codes.proofs.laws.recoding_keeps_lines.Goals as goal

pub returns : goal.returns
returns c = recoding_keeps_lines_lem
