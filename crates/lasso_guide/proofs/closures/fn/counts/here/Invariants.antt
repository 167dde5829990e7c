use Rattle.std.proofs.Common.{◌≡◌}
use Rattle.lasso_guide.proofs.closures.fn.counts.here.Given as goal

-- each text so far is counted
abbrev pub invariant-loop : goal.invariant-loop
invariant-loop l = l.count ≡ l.index
