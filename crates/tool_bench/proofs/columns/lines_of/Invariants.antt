use Rattle.std.proofs.Common.{length}
use Rattle.tool_bench.proofs.columns.lines_of.Given as goal

-- each line leaves fewer bytes
abbrev pub decreases-loop-line : goal.decreases-loop-line
decreases-loop-line l = length l.rest
