use Rattle.std.proofs.Common.{◌-◌, ◌≤◌}
use Rattle.lasso_input.proofs.stretch.look_ahead_at.Given as goal

abbrev pub invariant-loop-count : goal.invariant-loop-count
invariant-loop-count g l = l.count ≤ 32

abbrev pub decreases-loop-count : goal.decreases-loop-count
decreases-loop-count g l = 32 - l.count
