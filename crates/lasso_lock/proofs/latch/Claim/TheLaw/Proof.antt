-- A `&` to a reader's claim shows the value. Assumes `Logic`.
-- The claim's fields are a pointer and a marker, which are copied; what it owns beside them is lent as `Lending` says, for lifetimes within the latch's.
use mathlib.Core.List.{[], ◌++◌}
use base.Fml.{Incl, Incl-trans}
use contract.BorrowLft.{meet_⊑_left, meet_⊑_right}
use denote.RattleType.{RattleType}
use denote.Ref.{NamedLft, ShrRef}
use denote.Param.Laws.{Laws}
use denote.Param.Shared.{copy_shared}
use denote.Struct.Field.{RawPtr-field}
use denote.Struct.Laws.{RawPtr-copy, field_copy}
use denote.Struct.Lending.{of_Lends}
use Rattle.core.specs.contracts.marker.PhantomData as marker
use Rattle.lasso_lock.specs.declared.latch.Fits.{Ghosts}
use Rattle.lasso_lock.specs.contracts.latch.Claim as C
use Rattle.lasso_lock.proofs.latch.Claim.TheLaw.Statement.{statement}
use Rattle.lasso_lock.proofs.Lending.{claim_laws, claim_lends}

-- the row of a claim lives within the latch's lifetime
claim_within : (a : NamedLft) (T G : RattleType) (g : Ghosts T.Denot G.Denot) → Incl (C.the_row a T G g).lives a.lft
claim_within a T G g = let s = (ShrRef a.mir a.lft T).lives in
    Incl-trans (meet_⊑_right (T.lives ++ (G.lives ++ [])) (((s ++ []) ++ []) ++ [])) (Incl-trans (meet_⊑_left ((s ++ []) ++ []) []) (Incl-trans (meet_⊑_left (s ++ []) []) (Incl-trans (meet_⊑_left s []) (meet_⊑_left a.lft T.lives))))

pub shares : (a : NamedLft) (T G : RattleType) (g : Ghosts T.Denot G.Denot) (L : Laws T) (K : Laws G) → statement a T G g L K
shares a T G g L K = let Ref : RattleType = ShrRef a.mir a.lft T in
    of_Lends (C.struct a T G g) (C.the_codes T.Denot G.Denot T.coded G.coded (marker.the_row Ref).coded) (C.the_heap a.lft T G g) (C.the_lent a.lft T G g)
    (λ c p. claim_laws T (g.fits c.tag) L.shr_laws a.lft c.place c.right c.value)
    (copy_shared RawPtr-field RawPtr-copy, (copy_shared (marker.the_field Ref) (field_copy (marker.the_type Ref) tt), tt))
    (λ M 𝓤 𝓛 c p. claim_lends 𝓛 T (g.fits c.tag) L.shr_laws a.lft (C.the_row a T G g).lives (claim_within a T G g) c.place c.right c.value)
