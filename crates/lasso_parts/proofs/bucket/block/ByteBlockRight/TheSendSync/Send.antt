-- The right to a block goes where its allocator goes.
use denote.RattleType.{RattleType}
use denote.Param.Send.{IsSend, Frees}
use Rattle.core.specs.declared.alloc.Allocator.{Ghosts}
use Rattle.lasso_parts.proofs.Crossing.{deed_send}
use Rattle.lasso_parts.specs.contracts.bucket.block.ByteBlockRight.{the_row}

pub send : (A : RattleType) (heap : Ghosts A.Denot) → IsSend A → Frees heap heap.dealloc_token → IsSend (the_row A heap)
send A heap goes frees = deed_send A heap frees
