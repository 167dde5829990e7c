use Rattle.std.proofs.Common.{ℕ, ◌≡◌, List, ◌∷◌, ◌++◌, [], Err, ap, subst, decimal}
use Rattle.std.proofs.lemmas.Result.{err_from_is_err_and}
use Rattle.lasso_codes.specs.Streams.{Writes, WritesAll}
use Rattle.lasso_codes.proofs.Written.{writes_then, front_then, front_fails}
use Rattle.lasso_codes.proofs.counts.write_count.Goals as goal

pub returns-in_err-write_bytes-clause-written : goal.returns-in_err-write_bytes-clause-written
returns-in_err-write_bytes-clause-written g c =
    let p = err_from_is_err_and c.from_residual-in_err-write_bytes.result c.from_residual-in_err-write_bytes.ensures.1 in
    let digits = decimal c.args.ranked.now.0.0 in
    let back = c.as_slice-line.result.now ++ 10 ∷ [] in
    let error = c.in_err-write_bytes.field-0.0 in
    let lent : back ≡ g.T.AsSlice.items c.args.ranked.now.1 ++ 10 ∷ [] = ap (λ (l : List ℕ). l ++ 10 ∷ []) c.as_slice-line.ensures in
    rw (p.1, p.2) (subst (λ bs. Writes c.args.output.now.written c.write_bytes.new.output.written (WritesAll (digits ++ (32 ∷ bs)) (Err error))) lent (writes_then _ _ _ (λ part. part ≡ digits) (WritesAll (32 ∷ []) (Err error)) (WritesAll (digits ++ (32 ∷ back)) (Err error)) c.in_ok-write_number.ensures.written c.in_err-write_bytes.ensures.written (λ part more is w.
    front_then part more digits (32 ∷ back) (Err error) is (front_fails more (32 ∷ []) back error w))))

pub returns-clause-written : goal.returns-clause-written
returns-clause-written g c =
    let digits = decimal c.args.ranked.now.0.0 in
    let back = c.as_slice-line.result.now ++ 10 ∷ [] in
    let result = c.write_line.result in
    let line = c.write_line.ensures.written in
    let lent : back ≡ g.T.AsSlice.items c.args.ranked.now.1 ++ 10 ∷ [] = ap (λ (l : List ℕ). l ++ 10 ∷ []) c.as_slice-line.ensures in
    subst (λ bs. Writes c.args.output.now.written c.write_line.new.output.written (WritesAll (digits ++ (32 ∷ bs)) result)) lent (writes_then _ _ _ (λ part. part ≡ digits) (WritesAll (32 ∷ back) result) (WritesAll (digits ++ (32 ∷ back)) result) c.in_ok-write_number.ensures.written
    (writes_then _ _ _ (λ part. part ≡ 32 ∷ []) (WritesAll back result) (WritesAll (32 ∷ back) result) c.in_ok-write_bytes.ensures.written line (λ part more is w. front_then part more (32 ∷ []) back result is w))
    (λ part more is w. front_then part more digits (32 ∷ back) result is w))
