use Rattle.std.proofs.Common.{◌≡◌, drop}
use Rattle.lasso_input.specs.Numbers.{digits_after}
use Rattle.lasso_input.proofs.numbers.parse_digits.Given as goal

-- the digits before the index have this value
abbrev pub invariant-loop-digit : goal.invariant-loop-digit
invariant-loop-digit l = digits_after l.value (drop l.digit-index l.digits) ≡ digits_after 0 l.digits
