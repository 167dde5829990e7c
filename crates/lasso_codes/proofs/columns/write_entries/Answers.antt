use Rattle.std.proofs.Common.{ℕ, ◌≡◌, ◌++◌, List, Err, take, get_or, ap, ◌∙◌, arith}
use Rattle.std.specs.Prelude.{flat_map}
use Rattle.std.proofs.lemmas.List.{take_all, take_more}
use Rattle.std.proofs.lemmas.Result.{err_from_is_err_and}
use Rattle.lasso_codes.specs.Columns.{entry_at, entry_bytes}
use Rattle.lasso_codes.specs.Streams.{WritesAll}
use Rattle.lasso_codes.proofs.Blocks.{block_then, block_fails, block_ends}
use Rattle.lasso_codes.proofs.Written.{writes_then}
use Rattle.lasso_codes.proofs.columns.write_entries.Goals as goal

pub returns-in_err-filled-clause-written : goal.returns-in_err-filled-clause-written
returns-in_err-filled-clause-written g c =
    let p = err_from_is_err_and c.from_residual.result c.from_residual.ensures.1 in
    let at = c.loop-code in
    let codes = c.args.codes.now in
    let held = take at.filled at.block in
    let error = c.in_err-filled.field-0.0 in
    let bytes : ℕ → List ℕ = λ n. entry_bytes c.args.binary (entry_at n) in
    rw (p.1, p.2) (writes_then _ _ _ (λ part. part ++ held ≡ flat_map bytes (take at.code-index codes)) (WritesAll held (Err error)) (WritesAll (flat_map bytes codes) (Err error)) at.invariant.written c.in_err-filled.ensures.written (λ part more so_far written.
    block_fails bytes codes at.code-index part held so_far more error written))

pub loop-code-preserved : goal.loop-code-preserved
loop-code-preserved g c =
    let at = c.loop-code in
    let codes = c.args.codes.now in
    let i = at.code-index in
    let held = take at.filled at.block in
    let kept = take c.in_ok-filled.filled at.block in
    let put = c.put_entry-filled in
    let bytes : ℕ → List ℕ = λ n. entry_bytes c.args.binary (entry_at n) in
    record {
      fits = omega (arith, put.ensures.within, c.in_ok-filled.ensures.room);
      long = put.ensures.len ∙ at.invariant.long;
      written = writes_then _ _ _ (λ part. part ++ held ≡ flat_map bytes (take i codes)) (λ part. part ++ kept ≡ held) _ at.invariant.written c.in_ok-filled.ensures.written (λ part more so_far moved.
          block_then bytes codes i part held so_far (get_or codes i 0) (take_more codes i 0 c.loop-code-test.true) more kept (take put.result put.new.block) moved put.ensures.put);
      writes = omega (arith, c.in_ok-filled.ensures.writes, at.invariant.writes);
      gone = omega (arith, c.in_ok-filled.ensures.gone, at.invariant.gone);
    }

pub returns-clause-written : goal.returns-clause-written
returns-clause-written g c =
    let at = c.loop-code in
    let codes = c.args.codes.now in
    let held = take at.filled at.block in
    let result = c.write_bytes.result in
    let bytes : ℕ → List ℕ = λ n. entry_bytes c.args.binary (entry_at n) in
    writes_then _ _ _ (λ part. part ++ held ≡ flat_map bytes (take at.code-index codes)) (WritesAll held result) (WritesAll (flat_map bytes codes) result) at.invariant.written c.write_bytes.ensures.written (λ part more so_far written.
    block_ends part held (flat_map bytes codes) more result (so_far ∙ ap (λ ns. flat_map bytes ns) (take_all at.code-index codes c.loop-code-test.false)) written)
