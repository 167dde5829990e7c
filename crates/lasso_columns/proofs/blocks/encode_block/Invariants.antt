use Rattle.std.proofs.Common.{length}
use Rattle.lasso_columns.specs.Rows.{word_of}
use Rattle.lasso_columns.proofs.Beside.{BlockSoFar}
use Rattle.lasso_columns.proofs.blocks.encode_block.Given as goal

-- the lines before the rest were encoded
abbrev pub invariant-loop-line : goal.invariant-loop-line
invariant-loop-line g l = BlockSoFar (word_of l.null) l.rodeo.texts l.bytes l.lines l.added.texts l.entries.items

abbrev pub decreases-loop-line : goal.decreases-loop-line
decreases-loop-line g l = length l.lines
