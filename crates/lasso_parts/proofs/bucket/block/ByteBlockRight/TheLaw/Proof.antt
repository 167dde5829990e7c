-- A `&` to the right to free a block.
--
-- It holds a `&` to the right's one field, a mark of no size that can be copied, and nothing of the token. So
-- it can be made of any borrow of the right to a block, and the law for what it holds is the law for holding nothing.
use denote.RattleType.{RattleType}
use denote.RawPtr.{RawPtr}
use denote.Param.Laws.{Laws}
use denote.Param.Shared.{copy_shared}
use denote.SharingLaws.{nothing_shr_laws}
use denote.Struct.Laws.{field_copy}
use denote.Struct.Lending.{of_Lends, Lends-nothing}
use Rattle.core.specs.declared.alloc.Allocator.{Ghosts}
use Rattle.core.specs.contracts.marker.PhantomData as mark
use Rattle.lasso_parts.specs.contracts.bucket.block.ByteBlockRight as block_right
use Rattle.lasso_parts.proofs.bucket.block.ByteBlockRight.TheLaw.Statement.{statement}

pub shares : (A : RattleType) (heap : Ghosts A.Denot) (laws : Laws A) → statement A heap laws
shares A heap laws =
    of_Lends (block_right.struct A heap) (block_right.the_codes A.Denot A.coded (mark.the_row RawPtr).coded) (block_right.the_heap A heap) (block_right.the_lent A heap) (λ d p. nothing_shr_laws)
    (copy_shared (mark.the_field RawPtr) (field_copy (mark.the_type RawPtr) tt), tt) (λ M 𝓤 𝓛 d p. Lends-nothing 𝓛 (block_right.the_heap A heap d) (block_right.the_row A heap).lives)
