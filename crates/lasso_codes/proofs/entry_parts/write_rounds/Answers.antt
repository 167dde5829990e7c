use Rattle.std.proofs.Common.{◌≡◌, ◌<◌, [], Err, length, take, drop, arith}
use Rattle.std.proofs.lemmas.Result.{err_from_is_err_and}
use Rattle.std.proofs.lemmas.Grind.{common_steps}
use Rattle.lasso_codes.specs.Columns.{entries_of}
use Rattle.lasso_codes.specs.Streams.{WritesAll}
use Rattle.lasso_codes.proofs.Written.{HasLeft, writes_as, writes_then}
use Rattle.lasso_codes.proofs.EntryParts.{rest_then, rest_fails, rest_ends}
use Rattle.lasso_codes.proofs.entry_parts.write_rounds.Goals as goal

pub returns-in_err-write_round-clause-written : goal.returns-in_err-write_round-clause-written
returns-in_err-write_round-clause-written g c =
    let p = err_from_is_err_and c.from_residual.result c.from_residual.ensures.1 in
    let whole = entries_of c.args.binary c.args.numbers.now in
    let rest = c.loop-rest.rest.now in
    let n = c.min.result in
    let error = c.in_err-write_round.field-0.0 in
    let written = rw (c.split_at.ensures.front) at c.in_err-write_round.ensures.written in
    rw (p.1, p.2) (writes_then _ _ _ (HasLeft whole (entries_of c.args.binary rest)) (WritesAll (entries_of c.args.binary (take n rest)) (Err error)) (WritesAll whole (Err error)) c.loop-rest.invariant.written written (λ part more so_far w.
    rest_fails c.args.binary whole rest n part more so_far error w))

pub loop-rest-preserved : goal.loop-rest-preserved
loop-rest-preserved g c =
    let whole = entries_of c.args.binary c.args.numbers.now in
    let rest = c.loop-rest.rest.now in
    let n = c.min.result in
    let written = rw (c.split_at.ensures.front) at c.in_ok-write_round.ensures.written in
    record {
      some = omega (arith, c.loop-rest.invariant.some, c.write_round.auto.parts);
      written = rw (c.split_at.ensures.back) (writes_then _ _ _ (HasLeft whole (entries_of c.args.binary rest)) (λ more. more ≡ entries_of c.args.binary (take n rest)) (HasLeft whole (entries_of c.args.binary (drop n rest))) c.loop-rest.invariant.written written (λ part more so_far is.
          rest_then c.args.binary whole rest n part more so_far is));
      writes = omega (arith, c.in_ok-write_round.ensures.writes, c.loop-rest.invariant.writes);
      gone = omega (arith, c.in_ok-write_round.ensures.gone, c.loop-rest.invariant.gone);
    }

pub returns-clause-written : goal.returns-clause-written
returns-clause-written g c =
    let whole = entries_of c.args.binary c.args.numbers.now in
    let rest = c.loop-rest.rest.now in
    let none : rest ≡ [] = grind (arith, common_steps) in
    writes_as _ _ (HasLeft whole (entries_of c.args.binary rest)) (λ part. part ≡ whole) c.loop-rest.invariant.written (λ part so_far. rest_ends c.args.binary whole rest part none so_far)
