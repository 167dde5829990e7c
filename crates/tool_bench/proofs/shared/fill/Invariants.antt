use Rattle.std.proofs.Common.{◌≡◌}
use Rattle.lasso_log.specs.Views.{list_of}
use Rattle.tool_bench.proofs.Named.{LacksFrom}
use Rattle.tool_bench.proofs.shared.fill.Given as goal

-- the pass and the spine are of the log, and the texts to come are not in the list
abbrev pub invariant-loop-number : goal.invariant-loop-number
invariant-loop-number g l = (l.pass.of ≡ l.log) × (l.spine.of ≡ l.log) × LacksFrom l.number (list_of l.log l.spine.notes)
