use Rattle.std.proofs.Common.{ℕ, ◌≡◌, List, [], Err, length, sym, subst}
use Rattle.std.proofs.lemmas.List.{append-nil}
use Rattle.std.proofs.lemmas.Result.{err_from_is_err_and}
use Rattle.lasso_codes.specs.Columns.{header}
use Rattle.lasso_codes.specs.Streams.{Writes, WritesAll}
use Rattle.lasso_codes.proofs.ColumnHead.{head_then, head_fails}
use Rattle.lasso_codes.proofs.columns.write_codes.Goals as goal

pub returns-in_err-write_header-clause-written : goal.returns-in_err-write_header-clause-written
returns-in_err-write_header-clause-written g c =
    let p = err_from_is_err_and c.from_residual.result c.from_residual.ensures.1 in
    let error = c.in_err-write_header.field-0.0 in
    let head = header c.args.binary 0 (length c.args.codes.now) in
    rw (p.1, p.2) (head_fails c.args.binary [] c.args.codes.now _ _ error (subst (λ (bs : List ℕ). Writes c.args.output.now.written c.write_header.new.output.written (WritesAll bs (Err error))) (sym (append-nil head)) c.in_err-write_header.ensures.written))

pub returns-clause-written : goal.returns-clause-written
returns-clause-written g c =
    let head = header c.args.binary 0 (length c.args.codes.now) in
    head_then c.args.binary [] c.args.codes.now _ _ _ c.write_entries.result (subst (λ (bs : List ℕ). Writes c.args.output.now.written c.write_header.new.output.written (λ part. part ≡ bs)) (sym (append-nil head)) c.in_ok-write_header.ensures.written) c.write_entries.ensures.written
