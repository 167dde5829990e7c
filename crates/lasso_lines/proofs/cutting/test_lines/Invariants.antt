use Rattle.std.proofs.Common.{◌≡◌, length}
use Rattle.lasso_input.specs.Lines.{lines_of}
use Rattle.lasso_lines.specs.LineFaults.{first_not_text}
use Rattle.lasso_lines.proofs.cutting.test_lines.Given as goal

-- the first line left has this number, and the lines before it are UTF-8
abbrev pub invariant-loop-line : goal.invariant-loop-line
invariant-loop-line g l = first_not_text 1 (lines_of l.input) ≡ first_not_text l.number (lines_of l.lines)

abbrev pub decreases-loop-line : goal.decreases-loop-line
decreases-loop-line g l = length l.lines
