use Rattle.std.proofs.Common.{drop}
use Rattle.lasso_columns.specs.Rows.{word_of, EncodesRows}
use Rattle.lasso_columns.specs.Streams.{lines_in}
use Rattle.lasso_columns.proofs.rounds.put_blocks.Given as goal

-- the blocks before the index were put
abbrev pub invariant-loop-i : goal.invariant-loop-i
invariant-loop-i g l = EncodesRows (word_of l.null) l.fn.rodeo (lines_in l.blocks) (lines_in (drop l.i l.blocks)) l.fn.entries.items l.rodeo l.entries.items
