-- The machine value of a seat of a shared interner, and what makes up its ownership: as `SeatValues` has them of the
-- other seat.
use Rattle.std.proofs.Common.{◌≡◌, List, [], ◌∷◌, refl, subst}
use lib.Dec.{T, lit<}
use seplogic.Ra.Ura.{Ura}
use mir.Raw.{raw as bare}
use mir.Val.{Val, has_ty, WT}
use base.Logic.{ent, sep}
use types.Logic.{Logic, sem}
use types.Kit.{Goal, Item, Seq, ‵, ◌$◌, ◌∵◌, !, qed, done, move, drop, fsplit, fjoin, fpick, fpack, feq_i, feq_l, rewrite}
use denote.Laws.{Is, shows}
use denote.Steps.{nothing, peeks}
use denote.RattleType.{RattleType, Valss}
use denote.RawPtr.{Ptr, null_ptr, block_ptr, ptr_val}
use denote.Exit.{no}
use denote.Param.{arg, layout}
use denote.Param.Laws.{Laws, arg_laws}
use denote.Struct.Struct.{within}
use denote.Struct.Owning.{shape, fields, to}
use Rattle.std.specs.Prelude.{Option}
use Rattle.std_heap.proofs.Handle.{heap_val, heap_Tells}
use Rattle.std_heap.proofs.Global.TheLaws as heap
use Rattle.std_heap.specs.contracts.Global as Heap
use Rattle.lasso_c.specs.SharedHeld.{held}
use Rattle.lasso_c.specs.contracts.shared.member.Member as Interner
use Rattle.lasso_c.proofs.shared.member.Member.TheLaws as interner
use Rattle.lasso_c.proofs.SeatValues.{passed_as, word}
use Rattle.lasso_c.specs.contracts.shared.seat.Seat as Seat

-- as a generic call is passed what a seat holds
abbrev pub interner_laws : Laws (passed_as Interner.the_row)
interner_laws = arg_laws (bare (layout Interner.the_row)) no Interner.the_row interner.the_row_laws refl

pub word_fits : (at : Ptr) → T (has_ty (layout Seat.the_row) (word at)) × WT (word at)
word_fits null_ptr = (tt, (record { fits = lit< tt }, (((tt, tt), tt), tt)))
word_fits (block_ptr b o) = (tt, (tt, (((tt, tt), tt), tt)))

module _ {M : Type 1} {𝓤 : Ura M} (𝓛 : Logic 𝓤) where
  -- what is held, with the handle, is a seat's
  pub seat_made : (at : Ptr) (alloc : (Heap.the_row).Denot) (value : Option (Interner.the_row).Denot) → ent 𝓤 (sep 𝓤 (sem 𝓛 (held at value)) (sem 𝓛 ((Heap.the_row).own_val alloc (heap_val ∷ [])))) (sem 𝓛 ((Seat.the_row).own_val (record { at = at; alloc = alloc; value = value }) (word at ∷ [])))
  seat_made at alloc value = qed 𝓛 (‵ (held at value) ∷ ‵ ((Heap.the_row).own_val alloc (heap_val ∷ [])) ∷ []) ∵
      nothing ! $ move ! (2 ∷ 0 ∷ []) $ fjoin ! $ feq_i ! (List Val) (ptr_val at ∷ []) (ptr_val at ∷ []) refl $ fjoin ! $ feq_i ! (List Val) (word at ∷ []) (word at ∷ []) refl $ fjoin ! $
      fpack ! (Valss (fields Seat.the_type)) (within (shape Seat.the_type) (to Seat.the_type (record { at = at; alloc = alloc; value = value })) (word at ∷ [])) (ptr_val at ∷ [], (heap_val ∷ [], tt)) $ fjoin ! $ done !

module _ {M : Type 1} {𝓤 : Ura M} {𝓛 : Logic 𝓤} {K : Type 0} {Γ : List (Item 𝓤)} {G : Goal 𝓤 𝓛.H} where
  -- a seat is what it holds, with the handle
  pub seat_parts : K → (v : (Seat.the_row).Denot)
      → (T (has_ty (layout Heap.the_row) heap_val) × WT heap_val → Seq K 𝓛 (‵ (held v.at v.value) ∷ ‵ ((Heap.the_row).own_val v.alloc (heap_val ∷ [])) ∷ Γ) G)
      → Seq K 𝓛 (‵ ((Seat.the_row).own_val v (word v.at ∷ [])) ∷ Γ) G
  seat_parts t v k =
      fsplit t $ fpick t (λ vss. fsplit t $ feq_l t (λ ev. fsplit t $ feq_l t (λ ep. fsplit t $
      peeks t Heap.the_row (Is Heap.the_row) (shows 𝓛 Heap.the_row) v.alloc vss.1.0 (λ is. let same = heap_Tells v.alloc vss.1.0 is in
      rewrite t 0 (λ (us : List Val). ‵ ((Heap.the_row).own_val v.alloc us)) same refl $ move t (1 ∷ []) $ drop t $ move t (1 ∷ []) $
      k (((heap.the_row_laws).lawful 𝓛).typed v.alloc (heap_val ∷ []) (subst (Is Heap.the_row v.alloc) same is)).0))))
