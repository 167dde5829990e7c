use Rattle.std.proofs.Common.{◌≡◌, Err, subst}
use Rattle.std.proofs.lemmas.Result.{err_from_is_err_and}
use Rattle.lasso_codes.specs.Streams.{Writes, WritesAll}
use Rattle.lasso_codes.proofs.Written.{all_written, writes_kept}
use Rattle.lasso_codes.proofs.program.show.Goals as goal

pub returns-in_err-write_bytes-clause-written : goal.returns-in_err-write_bytes-clause-written
returns-in_err-write_bytes-clause-written g c =
    let p = err_from_is_err_and c.from_residual.result c.from_residual.ensures.1 in
    let error = c.in_err-write_bytes.field-0.0 in
    rw (p.1, p.2) (subst (λ bs. Writes c.args.output.now.written c.write_bytes.new.output.written (WritesAll bs (Err error))) c.as_bytes.ensures.value c.in_err-write_bytes.ensures.written)

pub returns-in_err-write_bytes-clause-errors : goal.returns-in_err-write_bytes-clause-errors
returns-in_err-write_bytes-clause-errors g c =
    let p = err_from_is_err_and c.from_residual.result c.from_residual.ensures.1 in
    rw (p.1, p.2) c.in_err-write_bytes.ensures.written.2.0

pub returns-clause-written : goal.returns-clause-written
returns-clause-written g c =
    let text = c.args.text.now in
    let written = subst (λ bs. Writes c.args.output.now.written c.write_bytes.new.output.written (λ part. part ≡ bs)) c.as_bytes.ensures.value c.in_ok-write_bytes.ensures.written in
    writes_kept _ _ _ (λ part. part ≡ text) (WritesAll text c.flush.result) written c.flush.ensures.kept (λ part is. all_written text part c.flush.result is c.flush.ensures.errors)
