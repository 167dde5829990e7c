use Rattle.std.proofs.Common.{arith}
use Rattle.lasso_columns.proofs.LayoutLaws.{good_text, not_text}
use Rattle.lasso_columns.proofs.layout.text_between.Goals as goal

pub returns-in-Ok : goal.returns-in-Ok
returns-in-Ok c = (c.in-Ok.ensures.cases.0, good_text c.args.most c.args.bytes.now c.args.at c.args.from c.args.to c.if-to-from.false (omega arith) c.in-Ok.ensures.cases.1)

pub returns-in-Err : goal.returns-in-Err
returns-in-Err c = not_text c.args.most c.args.bytes.now c.args.at c.args.from c.args.to c.if-to-from.false (omega arith) c.in-Err.ensures.cases.0
