use Rattle.std.proofs.Common.{IfSome, sym, subst}
use Rattle.hex.specs.Hex.{IsBytes}
use Rattle.lasso_columns.specs.Rows.{word_of}
use Rattle.lasso_codes.proofs.encode.null_text.Goals as goal

pub returns-in-Ok-clause-bytes : goal.returns-in-Ok-clause-bytes
returns-in-Ok-clause-bytes c = subst (λ n. IfSome (word_of n) IsBytes) (sym c.in-Some.is) c.known_bytes.ensures
