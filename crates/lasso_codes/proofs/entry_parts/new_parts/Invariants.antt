use Rattle.std.proofs.Common.{◌≡◌}
use Rattle.std.specs.Prelude.{vec_len}
use Rattle.lasso_codes.proofs.entry_parts.new_parts.Given as goal

-- there are as many parts as rounds so far
abbrev pub invariant-loop : goal.invariant-loop
invariant-loop l = vec_len l.parts ≡ l.counter
