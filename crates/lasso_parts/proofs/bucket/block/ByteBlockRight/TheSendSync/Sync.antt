-- The right to a block may be shared, whatever its allocator: a `&` to it holds nothing.
use denote.RattleType.{RattleType}
use denote.Param.Send.{IsSync}
use Rattle.core.specs.declared.alloc.Allocator.{Ghosts}
use Rattle.lasso_parts.proofs.Crossing.{deed_sync}
use Rattle.lasso_parts.specs.contracts.bucket.block.ByteBlockRight.{the_row}

pub sync : (A : RattleType) (heap : Ghosts A.Denot) → IsSync (the_row A heap)
sync A heap = deed_sync A heap
