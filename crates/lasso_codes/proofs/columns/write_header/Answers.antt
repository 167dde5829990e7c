use Rattle.std.proofs.Common.{◌∷◌, ◌++◌, [], Err, decimal}
use Rattle.std.proofs.lemmas.Result.{err_from_is_err_and}
use Rattle.lasso_codes.specs.Columns.{header_front}
use Rattle.lasso_codes.proofs.Written.{writes_front, writes_front_fails}
use Rattle.lasso_codes.proofs.columns.write_header.Goals as goal

pub returns-in_err-write_front-clause-written : goal.returns-in_err-write_front-clause-written
returns-in_err-write_front-clause-written g c =
    let p = err_from_is_err_and c.from_residual.result c.from_residual.ensures.1 in
    let back = decimal c.args.distinct ++ 32 ∷ [] ++ (decimal c.args.lines ++ 10 ∷ []) in
    rw (p.1, p.2) (writes_front_fails _ _ (header_front c.args.binary) back c.in_err-write_front.field-0.0 c.in_err-write_front.ensures.written)

pub returns-in_err-write_number_and-clause-written : goal.returns-in_err-write_number_and-clause-written
returns-in_err-write_number_and-clause-written g c =
    let p = err_from_is_err_and c.from_residual-in_err-write_number_and.result c.from_residual-in_err-write_number_and.ensures.1 in
    let distinct = decimal c.args.distinct ++ 32 ∷ [] in
    let lines = decimal c.args.lines ++ 10 ∷ [] in
    let error = c.in_err-write_number_and.field-0.0 in
    rw (p.1, p.2) (writes_front _ _ _ (header_front c.args.binary) (distinct ++ lines) (Err error) c.in_ok-write_front.ensures.written (writes_front_fails _ _ distinct lines error c.in_err-write_number_and.ensures.written))

pub returns-clause-written : goal.returns-clause-written
returns-clause-written g c =
    let distinct = decimal c.args.distinct ++ 32 ∷ [] in
    let lines = decimal c.args.lines ++ 10 ∷ [] in
    let result = c.write_number_and-2.result in
    writes_front _ _ _ (header_front c.args.binary) (distinct ++ lines) result c.in_ok-write_front.ensures.written (writes_front _ _ _ distinct lines result c.in_ok-write_number_and.ensures.written c.write_number_and-2.ensures.written)
