use Rattle.lasso_input.proofs.LettingIn.{any_let_in, other_let_out, utf8_let_in}
use Rattle.lasso_input.proofs.escaping.is_let_in.Goals as goal

pub returns-then-not-only_utf8 : goal.returns-then-not-only_utf8
returns-then-not-only_utf8 c = any_let_in c.args.only_utf8 c.args.line.now c.if-not-only_utf8.true

pub returns-in-Ok : goal.returns-in-Ok
returns-in-Ok c = utf8_let_in c.args.only_utf8 c.args.line.now c.in-Ok.ensures.1

pub returns-in-Err : goal.returns-in-Err
returns-in-Err c = other_let_out c.args.only_utf8 c.args.line.now c.if-not-only_utf8.false c.in-Err.ensures
