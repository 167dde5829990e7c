use Rattle.std.proofs.Common.{ℕ, suc, ◌≡◌, ◌+◌, ◌-◌, ◌*◌, not, nat_eq, if◌then◌else◌, length, get_or, drop, ap, sym, ◌∙◌, arith}
use Rattle.lasso_c.specs.Bitmap.{byte_of, code_bits}
use Rattle.lasso_c.proofs.Bits.{bit_is, bit_small, byte_room, byte_step}
use Rattle.lasso_c.proofs.nulls.byte_of.Goals as goal

pub overflow_mul-byte : goal.overflow_mul-byte
overflow_mul-byte c =
    let room = byte_room c.args.null c.args.codes.now (length c.args.codes.now - c.loop-at.at) (omega arith) in
    omega (arith, room, c.loop-at.invariant)

pub overflow_add-byte : goal.overflow_add-byte
overflow_add-byte c =
    let room = byte_room c.args.null c.args.codes.now (length c.args.codes.now - c.loop-at.at) (omega arith) in
    let bit = not (nat_eq (get_or c.args.codes.now ((length c.args.codes.now - 1) - c.loop-at.at) 0) c.args.null) in
    let is : c.from.result ≡ (if bit then 1 else 0) = c.from.ensures ∙ bit_is bit in
    let one = bit_small bit in
    omega (arith, room, c.loop-at.invariant, one, is)

pub loop-at-preserved : goal.loop-at-preserved
loop-at-preserved c =
    let codes = c.args.codes.now in
    let here : ℕ = (length codes - 1) - c.loop-at.at in
    let next : length codes - c.loop-at.at ≡ suc here = omega arith in
    let last : length codes - (c.loop-at.at + 1) ≡ here = omega arith in
    let step = byte_step c.args.null codes here (omega arith) in
    let bit = not (nat_eq (get_or codes here 0) c.args.null) in
    let is : c.from.result ≡ (if bit then 1 else 0) = c.from.ensures ∙ bit_is bit in
    let more : byte_of (drop here (code_bits c.args.null codes)) ≡ c.from.result + 2 * c.loop-at.byte =
    step ∙ ap (λ n. n + 2 * byte_of (drop (suc here) (code_bits c.args.null codes))) (sym is) ∙ ap (λ n. c.from.result + 2 * byte_of (drop n (code_bits c.args.null codes))) (sym next) ∙ ap (λ n. c.from.result + 2 * n) (sym c.loop-at.invariant) in
    let both : 2 * c.loop-at.byte + c.from.result ≡ c.from.result + 2 * c.loop-at.byte = omega arith in
    both ∙ sym more ∙ ap (λ n. byte_of (drop n (code_bits c.args.null codes))) (sym last)
