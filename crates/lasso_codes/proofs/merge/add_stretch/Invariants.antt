use Rattle.std.proofs.Common.{◌≤◌, length}
use Rattle.lasso_codes.specs.Stages.{AddsOn}
use Rattle.lasso_codes.proofs.merge.add_stretch.Given as goal

-- the numbers of the entries before the position were added, and the others follow
abbrev pub invariant-loop-position : goal.invariant-loop-position
invariant-loop-position l = record {
  within : l.used ≤ length l.fn.stretch;
  added : AddsOn l.fn.table l.fn.header.binary l.fn.stretch l.fn.count l.fn.numbers.items (l.position, l.used) l.numbers.items;
}
