use Rattle.std.proofs.Common.{◌+◌, ◌-◌, ◌*◌, ◌^◌, ◌<◌, ◌∙◌, drop, refl, ap, arith}
use Rattle.std.proofs.lemmas.List.{get_or_default}
use Rattle.lasso_lines.specs.Fronts.{front_from}
use Rattle.lasso_lines.proofs.Fronts.{front_next, one_more_digit}
use Rattle.lasso_lines.proofs.sorting.front_of.Goals as goal
use Rattle.lasso_lines.proofs.sorting.front_of.Goals.{After-from}

byte : (c : After-from) → c.from.result < 256
byte c = omega (arith, c.from.ensures, c.byte_at.type_inv)

more : (c : After-from) → (c.loop-at.number * 256 + c.from.result < 2 ^ (8 * (c.loop-at.at + 1))) × (c.loop-at.number * 256 + c.from.result < 2 ^ 64)
more c = one_more_digit c.loop-at.number c.loop-at.at c.from.result c.loop-at-test.true c.loop-at.invariant.small (byte c)

pub overflow_mul-number : goal.overflow_mul-number
overflow_mul-number c = omega (arith, (one_more_digit c.loop-at.number c.loop-at.at 0 c.loop-at-test.true c.loop-at.invariant.small (omega arith)).1)

pub overflow_add-number : goal.overflow_add-number
overflow_add-number c = omega (arith, (more c).1)

pub loop-at-preserved : goal.loop-at-preserved
loop-at-preserved c =
    let bytes = c.as_bytes-bytes.result.now in
    let at = c.loop-at.at in
    let number = c.loop-at.number in
    record {
      digits =
          ap (λ d. front_from (number * 256 + d) (8 - (at + 1)) (drop (at + 1) bytes)) (c.from.ensures ∙ c.byte_at.ensures)
          ∙ front_next number at (8 - at) bytes refl c.loop-at-test.true ∙ c.loop-at.invariant.digits;
      small = (more c).0;
    }

pub returns-clause-bytes : goal.returns-clause-bytes
returns-clause-bytes c = λ k d small. omega (arith, c.type_inv.text k, get_or_default c.args.text.now k d 0 small)
