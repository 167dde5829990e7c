use Rattle.std.proofs.Common.{◌-◌, ◌≤◌}
use Rattle.lasso_parts.specs.Index.{IsFull}
use Rattle.lasso_parts.specs.IndexTable.{Misses}
use Rattle.lasso_parts.proofs.index.probe.scan_further.Given as goal

abbrev pub invariant-loop-j : goal.invariant-loop-j
invariant-loop-j g l = record {
  from : l.from ≤ l.j;
  full : IsFull l.slots.slots l.from l.j;
  misses : Misses (g.T.Texts.list l.texts) l.text l.slots.slots l.from l.j;
}

abbrev pub decreases-loop-j : goal.decreases-loop-j
decreases-loop-j g l = l.to - l.j
