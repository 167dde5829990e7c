use Rattle.std.proofs.Common.{arith, sym}
use Rattle.lasso_c.proofs.Layouts.{good_text, not_text}
use Rattle.lasso_c.proofs.layout.text_between.Goals as goal

pub returns-in-Some : goal.returns-in-Some
returns-in-Some g c = (c.in-Some.ensures.text, c.if-to-from.false, omega arith, good_text g.O.Offset.GREATEST c.args.bytes.now c.args.at c.args.from c.args.to c.if-to-from.false (omega arith) (sym c.in-Some.ensures.utf8))

pub returns-in-None : goal.returns-in-None
returns-in-None g c = not_text g.O.Offset.GREATEST c.args.bytes.now c.args.at c.args.from c.args.to c.if-to-from.false (omega arith) (sym c.in-None.ensures.utf8)
