use Rattle.lasso_columns.proofs.TextLines.{BlocksSoFar}
use Rattle.lasso_columns.proofs.line_texts.with_texts.Given as goal

-- the blocks before the index have texts, and the others are as they were
abbrev pub invariant-loop-i : goal.invariant-loop-i
invariant-loop-i l = BlocksSoFar l.only_utf8 l.fn.read.blocks.items l.blocks.items l.i
