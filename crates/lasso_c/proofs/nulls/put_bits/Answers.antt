use Rattle.std.proofs.Common.{◌≡◌, ◌*◌, ◌<◌, not, nat_eq, length, take, drop, ap, sym, ◌∙◌, arith}
use Rattle.std.specs.Int.{div_ceil}
use Rattle.std.proofs.lemmas.List.{length-map}
use Rattle.lasso_c.specs.Bitmap.{byte_of, code_bits}
use Rattle.lasso_c.specs.Layout.{over}
use Rattle.lasso_c.proofs.Bits.{bits_chunk, byte_put, bytes_whole}
use Rattle.lasso_c.proofs.nulls.put_bits.Goals as goal

pub loop-at-preserved : goal.loop-at-preserved
loop-at-preserved c =
    let codes = c.args.codes.now in
    let bits = code_bits c.args.null codes in
    let count : length bits ≡ length codes = length-map codes (λ code. not (nat_eq code c.args.null)) in
    let ceil : div_ceil (length codes) 8 ≡ div_ceil (length bits) 8 = ap (λ n. div_ceil n 8) (sym count) in
    let small : c.loop-at.at < div_ceil (length bits) 8 = omega (arith, ceil, c.div_ceil-at-end.ensures) in
    let chunk : code_bits c.args.null _ ≡ take 8 (drop (8 * c.loop-at.at) bits) = bits_chunk c.args.null codes (8 * c.loop-at.at) c.min-last.result c.min-last.ensures in
    byte_put bits c.args.bits.now c.loop-at.bits c.loop-at.at c.byte_of.result c.loop-at.invariant small (omega arith) c.loop-at.auto.bits (c.byte_of.ensures ∙ ap byte_of chunk)

pub returns : goal.returns
returns c =
    let codes = c.args.codes.now in
    let bits = code_bits c.args.null codes in
    let count : length bits ≡ length codes = length-map codes (λ code. not (nat_eq code c.args.null)) in
    let ceil : div_ceil (length codes) 8 ≡ div_ceil (length bits) 8 = ap (λ n. div_ceil n 8) (sym count) in
    c.loop-at.invariant ∙ ap (λ bs. over bs c.args.bits.now) (bytes_whole bits c.loop-at.at (omega (arith, ceil, c.div_ceil-at-end.ensures)))
