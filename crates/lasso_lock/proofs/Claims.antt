-- How a claim lies in memory: a pointer and a marker of no bytes. Assumes `Logic`.
use Rattle.std.proofs.Common.{◌≡◌, ℕ, ◌+◌, T, List, [], ◌∷◌, ◌++◌, refl, ap, ◌∙◌, Option, Some, None}
use seplogic.Ra.Ura.{Ura}
use mir.Syntax.{ty_ptr, ty_struct, tcons, tnil}
use mir.Val.{Val, vstruct, vcons, vnil, of_list, has_ty, WT}
use base.Logic.{SProp, ent, sep, ex, guard, emp, never_e}
use base.Fml.{Lft, Incl, Incl-refl, fsep}
use contract.BorrowLft.{⊑_meet}
use types.Logic.{Logic, sem}
use types.Kit.{‵, ◌$◌, ◌∵◌, !, qed, drop, fsplit, fjoin, fpick, fpack, show, check, use0, use1, done}
use denote.RattleType.{RattleType, RowLaws}
use denote.Memory.{shared_of}
use denote.SharingLaws.{shortens}
use denote.Laws.{Is}
use denote.Ref.{NamedLft, ShrRef}
use denote.Opens.{Opens}
use denote.Copied.{Struct-Copied}
use denote.RawPtr.{Ptr, InBlock, block_ptr, null_ptr, ptr_val, block_of, count_of}
use denote.Shadow.{makes_shadow}
use denote.Struct.Laws.{RawPtr-copy, field_copy}
use denote.Struct.Struct.{Struct}
use denote.Struct.Owning.{shape}
use Rattle.core.specs.contracts.marker.PhantomData as marker
use Rattle.lasso_lock.specs.declared.latch.Fits.{Ghosts}
use Rattle.lasso_lock.specs.Latches.{Keeping, value_at, known, entitled, claimed, lent_claim}
use Rattle.lasso_lock.specs.contracts.latch.Claim as claim

abbrev pub claim_val : Ptr → Val
claim_val p = vstruct (vcons (ptr_val p) (vcons (vstruct vnil) vnil))

pub claim_typed : (p : Ptr) → InBlock p → T (has_ty (ty_struct [] (tcons ty_ptr (tcons (ty_struct [] tnil) tnil))) (claim_val p)) × WT (claim_val p)
claim_typed (block_ptr b o) i = (tt, (tt, (tt, tt)))
claim_typed null_ptr i = absurd i

-- what the two fields own, which is nothing but that they are these values
module _ (a : NamedLft) (R G : RattleType) (g : Ghosts R.Denot G.Denot) where
  abbrev pub Fields : RattleType
  Fields = Struct (shape (claim.the_type a R G g))

  pub fields_are : (p : Ptr) (vs : List Val) → Is Fields (p, (tt, tt)) vs → vs ≡ claim_val p ∷ []
  fields_are p vs is = let pointer = is.1.1.0 in let mark = is.1.1.1.0.1.0 in
      is.1.0 ∙ ap (λ (us : List Val). vstruct (of_list (us ++ (is.0.1.0 ++ []))) ∷ []) pointer ∙ ap (λ (us : List Val). vstruct (of_list (ptr_val p ∷ (us ++ []))) ∷ []) mark

  pub fields_made : {M : Type 1} {𝓤 : Ura M} (𝓛 : Logic 𝓤) (p : Ptr) → ent 𝓤 (emp 𝓤) (sem 𝓛 (Fields.own_val (p, (tt, tt)) (claim_val p ∷ [])))
  fields_made 𝓛 p = makes_shadow 𝓛 (Fields.own_val (p, (tt, tt)) (claim_val p ∷ [])) (λ vss. (tt, (tt, ((λ uss. (tt, tt)), tt)))) ((ptr_val p ∷ [], (vstruct vnil ∷ [], tt)), (refl, (refl, ((tt, (refl, tt)), tt))))

  pub fields_open : {M : Type 1} {𝓤 : Ura M} (𝓛 : Logic 𝓤) → Opens 𝓛 Fields
  fields_open {M} {𝓤 = 𝓤} 𝓛 = let mark = (field_copy (marker.the_type (ShrRef a.mir a.lft R)) tt).copied M 𝓤 𝓛 in
      (Struct-Copied 𝓛 (shape (claim.the_type a R G g)) (refl, (refl, tt)) (RawPtr-copy.copied M 𝓤 𝓛, (mark, tt))).opens

  -- a claim, of what a thread knows of its latch and the right to it
  pub claim_made : {M : Type 1} {𝓤 : Ura M} (𝓛 : Logic 𝓤) (b o : ℕ) (t : Keeping) (right : ℕ) (tag : G.Denot) (v : Option R.Denot)
      → ent 𝓤 (sep 𝓤 (sem 𝓛 (known R (g.fits tag) b o t a.lft)) (sem 𝓛 (entitled R (g.fits tag) b o t right v)))
      (sem 𝓛 ((claim.the_row a R G g).own_val (record { place = block_ptr b o; borrow = record {}; right = right; tag = tag; value = v }) (claim_val (block_ptr b o) ∷ [])))
  claim_made {𝓤 = 𝓤} 𝓛 b o t right tag v = let fits = g.fits tag in let p : Ptr = block_ptr b o in
      qed 𝓛 (‵ (known R fits b o t a.lft) ∷ ‵ (entitled R fits b o t right v) ∷ []) ∵ fjoin ! $ fpack ! Keeping (λ s. fsep (known R fits b o s a.lft) (entitled R fits b o s right v)) t $
      use0 𝓛 (‵ (Fields.own_val (p, (tt, tt)) (claim_val p ∷ []))) (fields_made 𝓛 p) $ fjoin ! $ done !

-- A claim is opened at the place that its pointer leads to, which is no null. What a reader's claim lends is the value that it was told of.
module _ {M : Type 1} {𝓤 : Ura M} (𝓛 : Logic 𝓤) (R : RattleType) (fits : R.Denot → Type 0) (β : Lft) where
  abbrev pub Opened : Ptr → ℕ → Option R.Denot → Keeping → SProp 𝓤
  Opened p right v t = guard 𝓤 (InBlock p) (sep 𝓤 (sem 𝓛 (known R fits (block_of p) (count_of p) t β)) (sem 𝓛 (entitled R fits (block_of p) (count_of p) t right v)))

  pub claim_opens : (p : Ptr) (right : ℕ) (v : Option R.Denot) → ent 𝓤 (sem 𝓛 (claimed R fits β p right v)) (ex 𝓤 (Opened p right v))
  claim_opens null_ptr right v = never_e 𝓤 _
  claim_opens (block_ptr b o) right v = qed 𝓛 (‵ (claimed R fits β (block_ptr b o) right v) ∷ []) ∵ fpick ! (λ t. fsplit ! $ show ! (Opened (block_ptr b o) right v) t $ check ! tt $ done !)

  abbrev pub Seen : Lft → Ptr → Option R.Denot → R.Denot → SProp 𝓤
  Seen κ p v x = guard 𝓤 (InBlock p × (Some x ≡ v) × fits x) (sem 𝓛 (shared_of R x (block_of p) (count_of p + value_at R) κ))

  pub claim_seen : RowLaws R → (κ : Lft) → Incl κ β → (p : Ptr) (v : Option R.Denot) → ent 𝓤 (sem 𝓛 (lent_claim R fits β p 1 v κ)) (ex 𝓤 (Seen κ p v))
  claim_seen L κ le null_ptr v = never_e 𝓤 _
  claim_seen L κ le (block_ptr b o) None = never_e 𝓤 _
  claim_seen L κ le (block_ptr b o) (Some x) = let e : ℕ = o + value_at R in qed 𝓛 (‵ (lent_claim R fits β (block_ptr b o) 1 (Some x) κ) ∷ []) ∵ fsplit ! $ fpick ! (λ fit. drop ! $
      use1 𝓛 (‵ (shared_of R x b e κ)) (shortens 𝓛 (shared_of R x b e) (L x b e) (κ ++ β) κ (⊑_meet κ κ β (Incl-refl κ) le)) $ show ! (Seen κ (block_ptr b o) (Some x)) x $ check ! (tt, refl, fit) $ done !)
