use Rattle.std.proofs.Common.{◌-◌, ◌≤◌}
use Rattle.lasso_parts.specs.Groups.{AreOthers}
use Rattle.lasso_parts.proofs.index.groups.passed_over.Given as goal

abbrev pub invariant-loop-at : goal.invariant-loop-at
invariant-loop-at l = record {
  from : l.from ≤ l.at;
  to : l.at ≤ l.to;
  others : AreOthers l.fingerprints l.fingerprint l.from l.at;
}

abbrev pub decreases-loop-at : goal.decreases-loop-at
decreases-loop-at l = l.to - l.at
