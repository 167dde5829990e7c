use Rattle.std.proofs.Common.{◌≡◌, ◌-◌, ◌*◌, ◌^◌, ◌<◌, drop}
use Rattle.lasso_lines.specs.Fronts.{front_from, front}
use Rattle.lasso_lines.proofs.sorting.front_of.Given as goal

-- the bytes before the position are the digits of the number
abbrev pub invariant-loop-at : goal.invariant-loop-at
invariant-loop-at l = record {
  digits : front_from l.number (8 - l.at) (drop l.at l.bytes) ≡ front l.bytes;
  small : l.number < 2 ^ (8 * l.at);
}
