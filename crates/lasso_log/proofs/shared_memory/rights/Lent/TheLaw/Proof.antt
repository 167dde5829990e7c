-- What lies there may be known twice, so a `&` to a `Lent` knows it too.
use denote.Builtin.{unit}
use denote.Param.Shared.{copy_shared}
use denote.SharingLaws.{contraction, held_shr_laws}
use denote.Struct.Laws.{field_copy}
use denote.Struct.Lending.{of_Lends}
use Rattle.core.specs.contracts.marker.PhantomData as marker
use Rattle.logbook.proofs.Fields.{lends_twice}
use Rattle.lasso_log.specs.Eras.{lies}
use Rattle.lasso_log.specs.contracts.shared_memory.rights.Lent as C
use Rattle.lasso_log.proofs.LentBytes.{lies_laws}
use Rattle.lasso_log.proofs.shared_memory.rights.Lent.TheLaw.Statement.{statement}

pub shares : statement
shares =
    of_Lends C.struct (C.the_codes (marker.the_row unit).coded) C.the_heap C.the_lent (λ d p. held_shr_laws d.until (lies d.bytes d.at) (lies_laws d.bytes d.at))
    (copy_shared (marker.the_field unit) (field_copy (marker.the_type unit) tt), tt)
    (λ M 𝓤 𝓛 d p. lends_twice 𝓛 (lies d.bytes d.at d.until) (contraction 𝓛 (lies d.bytes d.at) (lies_laws d.bytes d.at) d.until) C.the_row.lives)
