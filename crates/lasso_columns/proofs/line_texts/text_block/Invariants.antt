use Rattle.std.proofs.Common.{length}
use Rattle.lasso_columns.proofs.TextLines.{TextsSoFar}
use Rattle.lasso_columns.proofs.line_texts.text_block.Given as goal

-- the bytes have the texts of the lines before the rest
abbrev pub invariant-loop-line : goal.invariant-loop-line
invariant-loop-line l = TextsSoFar l.only_utf8 l.bytes l.lines l.texts.items

abbrev pub decreases-loop-line : goal.decreases-loop-line
decreases-loop-line l = length l.lines
