use Rattle.std.proofs.Common.{ℕ, ◌≡◌, ◌+◌, ◌*◌, true, drop, slice_index, sym, subst, arith, ◌∙◌}
use Rattle.std.specs.List.{AllPass}
use Rattle.std.specs.Simd.Lanes.{put_chunk}
use Rattle.std.proofs.lemmas.List.Elements.{All-drop, All-take}
use Rattle.std.proofs.lemmas.Simd.{take_more_put_chunk}
use Rattle.hex.specs.Hex.{is_hex_digit}
use Rattle.hex.proofs.HexLemmas.{decode_of-even}
use Rattle.hex.proofs.Pairs.{decode_done, decode_step}
use Rattle.lasso_input.proofs.HexDigits.{pair_read}
use Rattle.lasso_input.proofs.VectorDigits.{block_read, two_chunks}
use Rattle.lasso_input.proofs.digits.take_digits.Goals as goal

pub bytes_of-requires : goal.bytes_of-requires
bytes_of-requires c =
    let at = 2 * (c.loop-block.block * 16) in
    subst (AllPass is_hex_digit) (sym (two_chunks at c.args.digits.now)) (All-take (λ d. is_hex_digit d ≡ true) 32 (drop at c.args.digits.now) (All-drop (λ d. is_hex_digit d ≡ true) at c.args.digits.now c.requires.proper))

pub loop-block-preserved : goal.loop-block-preserved
loop-block-preserved c =
    let at = c.loop-block.block * 16 in
    let next : (c.loop-block.block + 1) * 16 ≡ at + 16 = omega arith in
    let put = take_more_put_chunk at c.loop-block.bytes c.bytes_of.result (at + 16) (omega (arith, c.bytes_of.ensures.long)) (omega arith) in
    rw next (block_read c.args.digits.now c.loop-block.bytes (put_chunk at c.loop-block.bytes c.bytes_of.result) c.bytes_of.result at (omega arith) put c.bytes_of.ensures.read c.loop-block.invariant)

pub number-high-requires : goal.number-high-requires
number-high-requires c = c.requires.proper (2 * c.loop-i.i) 0 (omega arith)

pub number-low-requires : goal.number-low-requires
number-low-requires c = c.requires.proper (2 * c.loop-i.i + 1) 0 (omega arith)

pub loop-i-preserved : goal.loop-i-preserved
loop-i-preserved c =
    let first : ℕ = slice_index c.args.digits.now (2 * c.loop-i.i) in
    let second : ℕ = slice_index c.args.digits.now (2 * c.loop-i.i + 1) in
    let pair = pair_read first second (2 * c.loop-i.i) c.number-high.result c.number-low.result c.number-high.ensures.value c.number-low.ensures.value in
    decode_step _ _ c.loop-i.i _ (omega arith) (omega arith) pair c.loop-i.invariant

pub returns : goal.returns
returns c =
    decode_of-even c.args.digits.now (omega arith) ∙ decode_done _ c.loop-i.bytes c.loop-i.i (omega arith) (omega arith) c.loop-i.invariant
