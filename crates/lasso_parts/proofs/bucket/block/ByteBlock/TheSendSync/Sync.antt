-- The places of a block may be shared.
use denote.Param.Send.{IsSync}
use Rattle.lasso_parts.proofs.Crossing.{block_sync}
use Rattle.lasso_parts.specs.contracts.bucket.block.ByteBlock.{the_row}

pub sync : IsSync the_row
sync = block_sync
