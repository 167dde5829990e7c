use Rattle.lasso_parts.specs.Index.{IsFull}
use Rattle.lasso_parts.proofs.index.probe.first_empty.Given as goal

abbrev pub invariant-loop-j : goal.invariant-loop-j
invariant-loop-j g l = IsFull l.slots.slots l.from l.j
