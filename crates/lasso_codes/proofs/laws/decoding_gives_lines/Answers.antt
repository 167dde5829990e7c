use Rattle.lasso_codes.proofs.ReadBack.{decoding_gives_lines_lem}
use Rattle.lasso_codes.proofs.laws.decoding_gives_lines.Goals as goal

pub returns : goal.returns
returns c = decoding_gives_lines_lem
