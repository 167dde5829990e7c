use Rattle.std.proofs.Common.{◌<◌, length}
use Rattle.std.specs.Io.KnownBytes.{Consumes}
use Rattle.lasso_columns.proofs.reading_blocks.fill.Given as goal

-- the block has the bytes that were read
abbrev pub invariant-loop : goal.invariant-loop
invariant-loop g l = record {
  taken : Consumes (g.I.Read.remaining l.fn.input) (g.I.Read.remaining l.input) l.block.items;
  room : 0 < length l.chunk;
}
