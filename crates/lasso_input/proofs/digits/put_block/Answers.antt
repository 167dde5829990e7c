use Rattle.std.proofs.Common.{◌+◌, ◌*◌, ◌++◌, List, ℕ, take, ap, ◌∙◌, arith}
use Rattle.std.proofs.lemmas.List.{append_assoc}
use Rattle.std.proofs.lemmas.Simd.{length-put_chunk, take_more_put_chunk}
use Rattle.std.specs.Simd.Lanes.{put_chunk}
use Rattle.lasso_input.proofs.digits.put_block.Goals as goal

pub returns-clause-put : goal.returns-clause-put
returns-clause-put c =
    let at = c.args.at in
    let digits = c.args.digits.now in
    let first = c.digits_of.result.0 in
    let second = c.digits_of.result.1 in
    let one = take_more_put_chunk (2 * at) digits first (2 * at + 16) (omega (arith, c.digits_of.ensures.first)) (omega arith) in
    let two = take_more_put_chunk (2 * at + 16) (put_chunk (2 * at) digits first) second (2 * (at + 16)) (omega (arith, c.digits_of.ensures.second)) (omega (arith, length-put_chunk (2 * at) digits first)) in
    two ∙ ap (λ (xs : List ℕ). xs ++ second) one ∙ append_assoc (take (2 * at) digits) first second ∙ ap (λ (xs : List ℕ). take (2 * at) digits ++ xs) c.digits_of.ensures.digits
