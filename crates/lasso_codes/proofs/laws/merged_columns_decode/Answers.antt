use Rattle.lasso_codes.proofs.MergedLines.{merged_columns_decode_lem}
use Rattle.lasso_codes.proofs.laws.merged_columns_decode.Goals as goal

pub returns : goal.returns
returns c = merged_columns_decode_lem
