use Rattle.std.proofs.Common.{◌≡◌, ◌∷◌, ◌++◌, [], Err, subst, take, arith}
use Rattle.std.specs.Prelude.{flat_map}
use Rattle.std.proofs.lemmas.Result.{err_from_is_err_and}
use Rattle.lasso_parts.proofs.TextLemmas.{take_more_at}
use Rattle.lasso_codes.specs.Distinct.{with_feed}
use Rattle.lasso_codes.specs.Streams.{Writes, WritesAll}
use Rattle.lasso_codes.proofs.Flat.{flat_then, flat_fails}
use Rattle.lasso_codes.proofs.Written.{writes_then}
use Rattle.lasso_codes.proofs.columns.write_lines.Goals as goal

pub returns-in_err-write_line-clause-written : goal.returns-in_err-write_line-clause-written
returns-in_err-write_line-clause-written g c =
    let p = err_from_is_err_and c.from_residual.result c.from_residual.ensures.1 in
    let texts = c.args.table.now in
    let i = c.loop-position.position in
    let text = c.at.result.now in
    let error = c.in_err-write_line.field-0.0 in
    let line = c.in_err-write_line.ensures.written in
    rw (p.1, p.2) (writes_then _ _ _ (λ part. part ≡ flat_map with_feed (take i texts)) (WritesAll (with_feed text) (Err error)) (WritesAll (flat_map with_feed texts) (Err error)) c.loop-position.invariant.written line (λ part more is w.
    flat_fails with_feed texts i text (take_more_at texts i text c.at.ensures) part more error is w))

pub loop-position-preserved : goal.loop-position-preserved
loop-position-preserved g c =
    let texts = c.args.table.now in
    let i = c.loop-position.position in
    let text = c.at.result.now in
    let line = c.in_ok-write_line.ensures.written in
    record {
      written =
          writes_then _ _ _ (λ part. part ≡ flat_map with_feed (take i texts)) (λ part. part ≡ with_feed text) _ c.loop-position.invariant.written line (λ part more is one.
          flat_then with_feed texts i text (take_more_at texts i text c.at.ensures) part more is one);
      writes = omega (arith, c.in_ok-write_line.ensures.writes, c.loop-position.invariant.writes);
      gone = omega (arith, c.in_ok-write_line.ensures.gone, c.loop-position.invariant.gone);
    }
