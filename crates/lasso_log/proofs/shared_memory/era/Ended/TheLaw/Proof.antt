-- That an era is over is a fact for good, so a `&` to what shows it holds the fact.
use base.Fml.{fdead}
use base.Logic.{snd∗}
use base.Before.{before}
use types.Logic.{sem}
use denote.Builtin.{unit}
use denote.Param.Shared.{copy_shared}
use denote.Struct.Laws.{field_copy}
use denote.Struct.Lending.{of_Lends}
use Rattle.core.specs.contracts.marker.PhantomData as marker
use Rattle.logbook.proofs.Fields.{lends_twice}
use Rattle.lasso_log.specs.Eras.{life}
use Rattle.lasso_log.specs.contracts.shared_memory.era.Ended as C
use Rattle.lasso_log.proofs.shared_memory.era.Ended.TheLaw.Statement.{statement}

pub shares : statement
shares =
    of_Lends C.struct (C.the_codes (marker.the_row unit).coded) C.the_heap C.the_lent
    (λ d p. record { contraction = λ M 𝓤 𝓛 κ. 𝓛.lfts.dead_dup (life d.id); mono = λ M 𝓤 𝓛 κ' κ. snd∗ 𝓤 (sem 𝓛 (before κ' κ)) (sem 𝓛 (fdead (life d.id))) })
    (copy_shared (marker.the_field unit) (field_copy (marker.the_type unit) tt), tt)
    (λ M 𝓤 𝓛 d p. lends_twice 𝓛 (fdead (life d.id)) (𝓛.lfts.dead_dup (life d.id)) C.the_row.lives)
