use Rattle.std.proofs.Common.{decimal}
use Rattle.lasso_codes.proofs.Written.{writes_front}
use Rattle.lasso_codes.proofs.columns.write_number_and.Goals as goal

pub returns-clause-written : goal.returns-clause-written
returns-clause-written g c = writes_front _ _ _ (decimal c.args.number) c.args.after.now c.write_bytes.result c.in_ok-write_number.ensures.written c.write_bytes.ensures.written
