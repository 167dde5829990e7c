use Rattle.std.proofs.Common.{◌≡◌, ◌≤◌, ◌*◌, Err, length, take, arith}
use Rattle.std.proofs.lemmas.Result.{err_from_is_err_and}
use Rattle.std.specs.Fork.{slice_chunk}
use Rattle.lasso_codes.specs.Columns.{entries_of}
use Rattle.lasso_codes.specs.Streams.{WritesAll}
use Rattle.lasso_codes.proofs.Written.{writes_as, writes_then}
use Rattle.lasso_codes.proofs.EntryParts.{part_then, part_fails, parts_end}
use Rattle.lasso_codes.proofs.entry_parts.write_parts.Goals as goal

pub returns-in_err-write_part-clause-written : goal.returns-in_err-write_part-clause-written
returns-in_err-write_part-clause-written g c =
    let p = err_from_is_err_and c.from_residual.result c.from_residual.ensures.1 in
    let numbers = c.args.numbers.now in
    let i = c.loop-index.index in
    let error = c.in_err-write_part.field-0.0 in
    let written = rw (c.part_at.ensures) at c.in_err-write_part.ensures.written in
    rw (p.1, p.2) (writes_then _ _ _ (λ part. part ≡ entries_of c.args.binary (take (i * 262144) numbers)) (WritesAll (entries_of c.args.binary (slice_chunk numbers 262144 i)) (Err error)) (WritesAll (entries_of c.args.binary numbers) (Err error)) c.loop-index.invariant.written written (λ part more so_far w.
    part_fails c.args.binary numbers 262144 i part more so_far error w))

pub loop-index-preserved : goal.loop-index-preserved
loop-index-preserved g c =
    let numbers = c.args.numbers.now in
    let i = c.loop-index.index in
    let written = rw (c.part_at.ensures) at c.in_ok-write_part.ensures.written in
    record {
      written = writes_then _ _ _ (λ part. part ≡ entries_of c.args.binary (take (i * 262144) numbers)) (λ more. more ≡ entries_of c.args.binary (slice_chunk numbers 262144 i)) _ c.loop-index.invariant.written written (λ part more so_far is.
          part_then c.args.binary numbers 262144 i part more so_far is);
      writes = omega (arith, c.in_ok-write_part.ensures.writes, c.loop-index.invariant.writes);
      gone = omega (arith, c.in_ok-write_part.ensures.gone, c.loop-index.invariant.gone);
    }

pub returns-clause-written : goal.returns-clause-written
returns-clause-written g c =
    let numbers = c.args.numbers.now in
    let reach = c.loop-index.index * 262144 in
    let long : length numbers ≤ reach = omega (arith, c.requires.reach, c.loop-index-test.false) in
    writes_as _ _ (λ part. part ≡ entries_of c.args.binary (take reach numbers)) (λ part. part ≡ entries_of c.args.binary numbers) c.loop-index.invariant.written (λ part so_far. parts_end c.args.binary numbers part reach long so_far)
