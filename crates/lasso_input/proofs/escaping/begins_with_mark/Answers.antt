use Rattle.std.proofs.Common.{sym}
use Rattle.lasso_input.proofs.Tested.{plain_unmarked}
use Rattle.lasso_input.proofs.escaping.begins_with_mark.Goals as goal

pub returns-then-is_plain : goal.returns-then-is_plain
returns-then-is_plain c = sym (plain_unmarked c.args.line.now (c.is_plain.ensures c.if-is_plain.true).1)
