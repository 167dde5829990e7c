-- A `&` to an era shows that it ends no later than the era: of a borrow of the era's token each reader has a share.
use mathlib.Core.List.{[], ◌∷◌}
use base.Fraction.{full_share}
use base.Fml.{Share, Fml, fbor, flft, fshr_bor}
use base.Logic.{sep}
use types.Logic.{sem, lfts}
use types.Kit.{‵, raw, ◌$◌, !, qed, updating, now, done}
use types.Tokens.{bor_fracture}
use denote.Builtin.{unit}
use denote.Param.Shared.{copy_shared}
use denote.SharingLaws.{one_shr_laws}
use denote.Struct.Laws.{field_copy}
use denote.Struct.Lending.{of_Lends}
use Rattle.core.specs.contracts.marker.PhantomData as marker
use Rattle.lasso_log.specs.Eras.{life}
use Rattle.lasso_log.specs.contracts.shared_memory.era.Era as C
use Rattle.lasso_log.proofs.shared_memory.era.Era.TheLaw.Statement.{statement}

pub shares : statement
shares =
    of_Lends C.struct (C.the_codes (marker.the_row unit).coded) C.the_heap C.the_lent (λ d p. one_shr_laws (λ q. flft (life d.id) q))
    (copy_shared (marker.the_field unit) (field_copy (marker.the_type unit) tt), tt)
    (λ M 𝓤 𝓛 d p κ ts inc sp. let Φ : Share → Fml = λ q. flft (life d.id) q in
    qed 𝓛 (‵ (fbor κ (Φ full_share)) ∷ raw (lfts 𝓛 ts) ∷ []) {P = 𝓛.H.⇛ (sep 𝓤 (sem 𝓛 (fshr_bor κ Φ)) (lfts 𝓛 ts))} (updating ! $ bor_fracture ! tt Φ full_share $ now ! $ done !))
