use Rattle.std.proofs.Common.{length}
use Rattle.lasso_columns.proofs.TextLines.{OwnSoFar}
use Rattle.lasso_columns.proofs.line_texts.are_own_texts.Given as goal

-- the lines before the rest are their own texts
abbrev pub invariant-loop-line : goal.invariant-loop-line
invariant-loop-line l = OwnSoFar l.bytes l.lines

abbrev pub decreases-loop-line : goal.decreases-loop-line
decreases-loop-line l = length l.lines
