use Rattle.std.proofs.Common.{◌<◌, length}
use Rattle.lasso_columns.proofs.StreamLines.{ReadSoFar}
use Rattle.lasso_columns.proofs.reading_blocks.read_blocks.Given as goal

-- the blocks so far were read
abbrev pub invariant-loop-index : goal.invariant-loop-index
invariant-loop-index g l = record {
  read : ReadSoFar (g.I.Read.remaining l.fn.input) (g.I.Read.remaining l.input) l.blocks.items;
  room : 0 < length l.chunk;
}
