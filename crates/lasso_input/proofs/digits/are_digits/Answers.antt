use Rattle.std.proofs.Common.{◌≡◌, ◌+◌, ◌*◌, ◌&&◌, true, false, ap, sym, drop, ◌∙◌, arith}
use Rattle.std.specs.List.{list_all}
use Rattle.hex.specs.Hex.{is_hex_digit}
use Rattle.lasso_input.proofs.VectorDigits.{block_tested}
use Rattle.lasso_input.proofs.digits.are_digits.Goals as goal

pub returns-then-not-are_block_digits : goal.returns-then-not-are_block_digits
returns-then-not-are_block_digits c =
    let at = c.loop-block.block * 16 in
    let bad : c.are_block_digits.result ≡ false = cc in
    ap (λ b. b && list_all is_hex_digit (drop (at + 16) c.args.bytes.now)) (sym bad ∙ c.are_block_digits.ensures) ∙ sym (block_tested c.args.bytes.now at) ∙ c.loop-block.invariant

pub loop-block-preserved : goal.loop-block-preserved
loop-block-preserved c =
    let at = c.loop-block.block * 16 in
    let next : (c.loop-block.block + 1) * 16 ≡ at + 16 = omega arith in
    let good : c.are_block_digits.result ≡ true = cc in
    rw next (ap (λ b. b && list_all is_hex_digit (drop (at + 16) c.args.bytes.now)) (sym good ∙ c.are_block_digits.ensures) ∙ sym (block_tested c.args.bytes.now at) ∙ c.loop-block.invariant)
