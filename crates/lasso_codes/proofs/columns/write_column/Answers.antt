use Rattle.std.proofs.lemmas.Result.{err_from_is_err_and}
use Rattle.lasso_codes.proofs.ColumnHead.{head_then, head_fails}
use Rattle.lasso_codes.proofs.columns.write_column.Goals as goal

pub returns-in_err-write_head-clause-written : goal.returns-in_err-write_head-clause-written
returns-in_err-write_head-clause-written g c =
    let p = err_from_is_err_and c.from_residual.result c.from_residual.ensures.1 in
    rw (p.1, p.2) (head_fails c.args.binary c.args.table.now c.args.codes.now _ _ c.in_err-write_head.field-0.0 c.in_err-write_head.ensures.written)

pub returns-clause-written : goal.returns-clause-written
returns-clause-written g c =
    head_then c.args.binary c.args.table.now c.args.codes.now _ _ _ c.write_entries.result c.in_ok-write_head.ensures.written c.write_entries.ensures.written
