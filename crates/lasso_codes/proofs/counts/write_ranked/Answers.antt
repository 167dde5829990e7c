use Rattle.std.proofs.Common.{◌≡◌, Err, map, subst, take}
use Rattle.std.specs.Prelude.{flat_map}
use Rattle.std.proofs.lemmas.Result.{err_from_is_err_and}
use Rattle.lasso_codes.specs.Counts.{count_line, pair_by}
use Rattle.lasso_codes.specs.Streams.{WritesAll}
use Rattle.lasso_codes.proofs.Written.{writes_then}
use Rattle.lasso_codes.proofs.CountedLines.{lines_fail}
use Rattle.lasso_codes.proofs.counts.write_ranked.Goals as goal

pub returns-in_err-write_count-clause-written : goal.returns-in_err-write_count-clause-written
returns-in_err-write_count-clause-written g c =
    let p = err_from_is_err_and c.from_residual.result c.from_residual.ensures.1 in
    let ranked = c.args.ranked.now in
    let see = pair_by g.T.AsSlice.items in
    let i = c.loop-one.one-index in
    let error = c.in_err-write_count.field-0.0 in
    rw (p.1, p.2) (writes_then _ _ _ (λ part. part ≡ flat_map count_line (map see (take i ranked))) _ (WritesAll (flat_map count_line (map see ranked)) (Err error)) c.loop-one.invariant.written c.in_err-write_count.ensures.written (λ part more is w.
    lines_fail see ranked i c.one-item.result part more error c.loop-one-test.true is (subst (λ one. WritesAll (count_line (see one)) (Err error) more) c.one-item.is w)))
