-- The places of a block may go to another thread.
use denote.Param.Send.{IsSend}
use Rattle.lasso_parts.proofs.Crossing.{block_send}
use Rattle.lasso_parts.specs.contracts.bucket.block.ByteBlock.{the_row}

pub send : IsSend the_row
send = block_send
