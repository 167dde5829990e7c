use Rattle.std.proofs.Common.{◌≡◌, length}
use Rattle.std.specs.Prelude.{flat_map}
use Rattle.std.proofs.lemmas.Result.{err_from_is_err_and}
use Rattle.lasso_codes.specs.Columns.{header}
use Rattle.lasso_codes.specs.Distinct.{with_feed}
use Rattle.lasso_codes.proofs.Written.{writes_front, writes_front_fails}
use Rattle.lasso_codes.proofs.columns.write_head.Goals as goal

pub returns-in_err-write_header-clause-written : goal.returns-in_err-write_header-clause-written
returns-in_err-write_header-clause-written g c =
    let p = err_from_is_err_and c.from_residual.result c.from_residual.ensures.1 in
    let texts = c.args.table.now in
    let distinct : c.len-distinct.result ≡ length texts = c.len-distinct.ensures in
    let head = rw (distinct) at c.in_err-write_header.ensures.written in
    rw (p.1, p.2) (writes_front_fails _ _ (header c.args.binary (length texts) c.args.lines) (flat_map with_feed texts) c.in_err-write_header.field-0.0 head)

pub returns-clause-written : goal.returns-clause-written
returns-clause-written g c =
    let texts = c.args.table.now in
    let distinct : c.len-distinct.result ≡ length texts = c.len-distinct.ensures in
    let head = rw (distinct) at c.in_ok-write_header.ensures.written in
    writes_front _ _ _ (header c.args.binary (length texts) c.args.lines) (flat_map with_feed texts) c.write_lines.result head c.write_lines.ensures.written
