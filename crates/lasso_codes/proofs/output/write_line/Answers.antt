use Rattle.std.proofs.Common.{◌++◌, ◌∷◌, [], ◌≡◌, Err}
use Rattle.std.proofs.lemmas.Result.{err_from_is_err_and}
use Rattle.lasso_codes.specs.Streams.{WritesAll}
use Rattle.lasso_codes.proofs.Written.{writes_as, writes_then, front_then, front_fails}
use Rattle.lasso_codes.proofs.output.write_line.Goals as goal

pub returns-in_err-write_bytes-clause-written : goal.returns-in_err-write_bytes-clause-written
returns-in_err-write_bytes-clause-written g c =
    let p = err_from_is_err_and c.from_residual.result c.from_residual.ensures.1 in
    let line = c.args.line.now in
    let error = c.in_err-write_bytes.field-0.0 in
    rw (p.1, p.2) (writes_as _ _ (WritesAll line (Err error)) (WritesAll (line ++ 10 ∷ []) (Err error)) c.in_err-write_bytes.ensures.written (λ part w. front_fails part line (10 ∷ []) error w))

pub returns-clause-written : goal.returns-clause-written
returns-clause-written g c =
    let line = c.args.line.now in
    writes_then _ _ _ (λ part. part ≡ line) (WritesAll (10 ∷ []) c.write_bytes-2.result) (WritesAll (line ++ 10 ∷ []) c.write_bytes-2.result) c.in_ok-write_bytes.ensures.written c.write_bytes-2.ensures.written (λ part more is w. front_then part more line (10 ∷ []) c.write_bytes-2.result is w)
