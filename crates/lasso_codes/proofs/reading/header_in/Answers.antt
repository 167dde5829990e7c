use Rattle.std.proofs.Common.{◌≡◌, ◌+◌, ◌-◌, ◌∙◌, length, length-drop, arith, ap, sym, subst, take, drop, Some, None}
use Rattle.std.proofs.lemmas.List.{take_all}
use Rattle.memchr.specs.Find.{IsFirstByte, is_byte}
use Rattle.lasso_input.specs.Numbers.{digits_value}
use Rattle.lasso_codes.specs.Reading.{header_at, header_with}
use Rattle.lasso_codes.proofs.FirstBytes.{first_byte_at}
use Rattle.lasso_codes.proofs.reading.header_in.Goals as goal

pub returns-in-Some : goal.returns-in-Some
returns-in-Some c =
    let binary = c.args.binary in
    let numbers = c.args.numbers.now in
    let at = c.in-Some.at in
    let found = subst (λ o. IsFirstByte (is_byte 32) numbers o) c.in-Some.is c.memchr.ensures in
    let whole : take (length numbers - (at + 1)) (drop (at + 1) numbers) ≡ drop (at + 1) numbers = take_all (length numbers - (at + 1)) (drop (at + 1) numbers) (omega (arith, length-drop (at + 1) numbers)) in
    c.header_with.ensures ∙ ap (λ o. header_with binary o c.parse_digits-lines.result) c.parse_digits-distinct.ensures ∙ ap (header_with binary (digits_value (take at numbers))) (c.parse_digits-lines.ensures ∙ ap digits_value whole)
    ∙ sym (ap (header_at binary numbers) (first_byte_at 32 numbers (Some at) found))

pub returns-in-None : goal.returns-in-None
returns-in-None c =
    let binary = c.args.binary in
    let numbers = c.args.numbers.now in
    let found = subst (λ o. IsFirstByte (is_byte 32) numbers o) c.in-None.is c.memchr.ensures in
    sym (ap (header_at binary numbers) (first_byte_at 32 numbers None found))
