-- A `&` to the places of a block.
--
-- It holds a `&` to each of the two fields, and nothing more: apart from its fields the struct owns nothing.
-- So it can be made of any borrow of the places, and the law for what else it holds is that for nothing.
use denote.Param.Shared.{copy_shared}
use denote.SharingLaws.{nothing_shr_laws}
use denote.Struct.Field.{RawPtr-field}
use denote.Struct.Laws.{RawPtr-copy}
use denote.Struct.Lending.{of_Lends, Lends-nothing}
use Rattle.core.proofs.slots.Slots.TheLaws as row
use Rattle.lasso_parts.specs.contracts.bucket.block.ByteBlock.TheInside as fields
use Rattle.lasso_parts.proofs.RowCalls.{byte_laws}
use denote.Builtin.{u8}
use Rattle.lasso_parts.proofs.bucket.block.ByteBlock.TheLaw.Statement.{statement}

pub shares : statement
shares = of_Lends fields.struct fields.the_codes fields.the_heap fields.the_lent (λ d p. nothing_shr_laws)
    (copy_shared RawPtr-field RawPtr-copy, (row.the_field_shared u8 byte_laws, tt)) (λ M 𝓤 𝓛 d p. Lends-nothing 𝓛 (fields.the_heap d) (fields.the_row).lives)
