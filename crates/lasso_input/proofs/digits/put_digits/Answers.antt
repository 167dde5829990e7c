use Rattle.std.proofs.Common.{ℕ, ◌≡◌, ◌+◌, ◌*◌, ap, arith, slice_index, ◌∙◌}
use Rattle.std.proofs.lemmas.Nat.{and_mask}
use Rattle.hex.proofs.Pairs.{encode_done, encode_step}
use Rattle.hex.specs.Hex.{lower_digits}
use Rattle.lasso_input.proofs.VectorDigits.{block_written}
use Rattle.lasso_input.proofs.digits.put_digits.Goals as goal

pub loop-block-preserved : goal.loop-block-preserved
loop-block-preserved c =
    let at = c.loop-block.block * 16 in
    let next : (c.loop-block.block + 1) * 16 ≡ at + 16 = omega arith in
    rw next (block_written c.args.bytes.now c.loop-block.digits c.put_block.new.digits at c.put_block.ensures.put c.loop-block.invariant)

pub loop-i-preserved : goal.loop-i-preserved
loop-i-preserved c =
    let byte : ℕ = slice_index c.args.bytes.now c.loop-i.i in
    encode_step lower_digits c.args.bytes.now c.loop-i.digits c.loop-i.i _ _ (omega arith) (omega arith) c.digit-high.ensures (c.digit-low.ensures ∙ ap (λ (k : ℕ). slice_index lower_digits k) (and_mask byte 4)) c.loop-i.invariant

pub returns : goal.returns
returns c = encode_done lower_digits c.args.bytes.now c.loop-i.digits c.loop-i.i (omega arith) (omega arith) c.loop-i.invariant
