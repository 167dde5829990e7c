use Rattle.std.proofs.Common.{◌+◌}
use Rattle.lasso_input.proofs.FirstLines.{rest_behind}
use Rattle.lasso_input.proofs.newlines.after_newline.Goals as goal

pub returns-clause-value : goal.returns-clause-value
returns-clause-value c = rest_behind (c.args.at + 1) c.args.bytes.now
