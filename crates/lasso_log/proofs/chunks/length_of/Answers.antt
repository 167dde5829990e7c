use Rattle.lasso_log.proofs.ChunkPositions.{shifted}
use Rattle.lasso_log.proofs.chunks.length_of.Goals as goal

pub returns-else-chunk-eq0 : goal.returns-else-chunk-eq0
returns-else-chunk-eq0 c = shifted c.args.chunk c.if-chunk-eq0.false c.requires
