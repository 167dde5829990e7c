use Rattle.std.proofs.Common.{◌≡◌, ◌+◌, ◌∷◌, [], ◌++◌, ◌∙◌, Err, Bor, ℕ, take, drop, map, ap, sym, refl, arith}
use Rattle.std.proofs.lemmas.List.{take_all, length-map}
use Rattle.std.proofs.lemmas.Result.{err_from_is_err_and}
use Rattle.lasso_parts.specs.Texts.{Text}
use Rattle.lasso_lines.specs.Ordered.{told}
use Rattle.lasso_lines.proofs.FailedCalls.{then_failed, none_failed}
use Rattle.lasso_lines.proofs.Known.{nothing_more, grows_as, grows_then, front_then, front_fails, only_grows_then}
use Rattle.lasso_lines.proofs.Told.{told_next, told_rest}
use Rattle.lasso_lines.proofs.ordered.write_texts.Goals as goal

pub lines-preserved : goal.lines-preserved
lines-preserved g c =
    let pairs = c.args.texts.now in
    let i = c.lines.text-index in
    let line = c.as_bytes.result.now in
    let texts = map (λ (p : ℕ × Bor Text). p.1.now) pairs in
    record {
      writes = omega (arith, c.in_ok-write_line.ensures.failures, c.lines.invariant.writes);
      delivered = only_grows_then _ _ _ c.lines.invariant.delivered c.write_line.ensures.delivered;
      texts = grows_then _ _ _ _ _ _ c.lines.invariant.texts c.in_ok-write_line.ensures.bytes (λ p q is wrote.
          ap (λ bs. bs ++ q) is ∙ ap (λ bs. told (take i texts) ++ bs) wrote ∙ sym (told_next pairs i line _ c.lines-test.true c.as_bytes.ensures.value));
    }

pub returns-in_err-write_line-clause-texts : goal.returns-in_err-write_line-clause-texts
returns-in_err-write_line-clause-texts g c =
    let p = err_from_is_err_and c.from_residual.result c.from_residual.ensures.1 in
    let pairs = c.args.texts.now in
    let i = c.lines.text-index in
    let line = c.as_bytes.result.now in
    let texts = map (λ (p : ℕ × Bor Text). p.1.now) pairs in
    rw (p.1, p.2, ← told_rest pairs i line _ c.lines-test.true c.as_bytes.ensures.value) (front_then _ _ _ (told (take i texts)) ((line ++ 10 ∷ []) ++ told (drop (i + 1) texts)) (Err c.in_err-write_line.field-0.0) c.lines.invariant.texts
    (front_fails _ _ (line ++ 10 ∷ []) (told (drop (i + 1) texts)) _ c.in_err-write_line.ensures.bytes))

pub returns-clause-texts : goal.returns-clause-texts
returns-clause-texts g c =
    let texts = map (λ (p : ℕ × Bor Text). p.1.now) c.args.texts.now in
    let whole : take c.lines.text-index texts ≡ texts = take_all c.lines.text-index texts (omega (arith, length-map c.args.texts.now (λ (p : ℕ × Bor Text). p.1.now), c.lines-test.false)) in
    grows_as _ _ _ _ c.lines.invariant.texts (λ part is. is ∙ ap told whole)

pub lines-init : goal.lines-init
lines-init g c = record { writes = refl; delivered = nothing_more _ _ tt; texts = nothing_more _ _ refl }

pub returns-in_err-write_line-clause-writes : goal.returns-in_err-write_line-clause-writes
returns-in_err-write_line-clause-writes g c =
    let p = err_from_is_err_and c.from_residual.result c.from_residual.ensures.1 in
    rw (p.1, p.2) (then_failed _ _ _ _ (none_failed _ _ c.lines.invariant.writes) c.in_err-write_line.ensures.failures)

pub returns-in_err-write_line-clause-delivered : goal.returns-in_err-write_line-clause-delivered
returns-in_err-write_line-clause-delivered g c = only_grows_then _ _ _ c.lines.invariant.delivered c.write_line.ensures.delivered

pub returns-in_err-write_line-clause-faults : goal.returns-in_err-write_line-clause-faults
returns-in_err-write_line-clause-faults g c =
    let p = err_from_is_err_and c.from_residual.result c.from_residual.ensures.1 in
    rw (p.1, p.2) c.in_err-write_line.ensures.faults

pub returns-clause-writes : goal.returns-clause-writes
returns-clause-writes g c = none_failed _ _ c.lines.invariant.writes

pub returns-clause-delivered : goal.returns-clause-delivered
returns-clause-delivered g c = c.lines.invariant.delivered
