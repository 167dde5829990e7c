use Rattle.std.proofs.Common.{◌≡◌, ◌++◌, drop, map}
use Rattle.std.specs.Prelude.{All}
use Rattle.lasso_lines.specs.Fronts.{IsFronted}
use Rattle.lasso_lines.proofs.Chosen.{chosen}
use Rattle.lasso_lines.proofs.ordered.collect.Given as goal

-- the texts taken so far, and those that are still to take, are all marked texts
abbrev pub invariant-loop-is_marked : goal.invariant-loop-is_marked
invariant-loop-is_marked g l = record {
  whole : map (λ p. p.1.now) l.texts.items ++ chosen (drop l.is_marked-index l.is_marked-items) l.strings ≡ chosen l.is_marked-items l.initial.strings;
  fronted : All IsFronted l.texts.items;
}
