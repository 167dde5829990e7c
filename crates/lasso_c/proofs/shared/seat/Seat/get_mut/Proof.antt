-- `get_mut` lends the interner that the seat's memory holds. While it is lent, the seat is that memory's right and the handle, and
-- whatever interner comes back lies where the first did, so it is the seat's again.
use Rattle.std.proofs.Common.{◌≡◌, ℕ, List, [], ◌∷◌, refl, sym}
use Rattle.std.specs.Prelude.{Option, None, Some}
use Rattle.std.specs.Box.Ownership.{box_owns}
use mir.Raw.{raw as bare}
use mir.Syntax.{named}
use mir.Val.{Val, vptr}
use seplogic.Ra.Ura.{Ura}
use base.Logic.{SProp, ent, sep, fst∗, id⊢, never}
use base.Fml.{Fml, GName, ftrue, fsep, flft}
use base.Fraction.{full_share}
use contract.Monad.{fact}
use contract.Running.{tables}
use types.Logic.{Logic, sem}
use types.Kit.{‵, raw, ◌⊛◌, some, later, at_ret, ◌$◌, ◌∵◌, !, qed, done, move, keep, use1, use2, split, split3, join, fsplit, fsplit3, fjoin, fpack, pick, await, rewrite, suffices, frame, group}
use types.Part.{whole, sub, look_in}
use types.Run.{enter, of_opd, addr, load, stop, fld, first, blocks, exec, returns}
use types.ByLocal.{alloc_all, pass_all, free_all, look_at, get, through, sets, sets_last, env}
use denote.Exit.{no}
use denote.Follow.{follows, Part, lends_Part}
use denote.Laws.{shows}
use denote.Memory.{part_at, part_of, mem, cell_at}
use denote.Param.{layout}
use denote.RawPtr.{Ptr, block_ptr, null_ptr, in_a_block}
use denote.RattleType.{RattleType}
use denote.Ref.{MutRef, mut_vals, mut_Tells}
use denote.Signature.{plain, mut_ref_to}
use denote.Steps.{nothing, heard, opens, peeks}
use denote.Triple.Walked.{Stays, stay_dropped, walk_of, says, ends_at, Goes-spent_ref}
use Rattle.std.proofs.raw_atomic.Walks.{proved}
use Rattle.std_alloc.proofs.VecSteps.Shapes.{after}
use Rattle.std_heap.proofs.Handle.{heap_val}
use Rattle.std_heap.specs.contracts.Global as Heap
use Rattle.lasso_c.specs.Held.{freed_by_heap}
use Rattle.lasso_c.specs.SharedHeld.{held}
use Rattle.lasso_c.specs.SharedLending.{with_member}
use Rattle.lasso_c.specs.contracts.shared.member.Member as Interner
use Rattle.lasso_c.specs.contracts.shared.seat.Seat as Seat
use Rattle.lasso_c.proofs.shared.seat.Seat.TheLaws as seat
use Rattle.lasso_c.specs.contracts.shared.seat.Seat.get_mut as f
use Rattle.lasso_c.proofs.SeatValues.{some_of, word}
use Rattle.lasso_c.proofs.SharedSeats.{seat_made, seat_parts}
use Rattle.lasso_c.proofs.shared.seat.Seat.get_mut.Statement.{statement}
use Rattle.lasso_c.proofs.shared.seat.Seat.get_mut.Code as code

abbrev stayed : Stays f.ended.signature.params f.ended.kept
stayed = (stay_dropped (mut_ref_to (0 ∷ []) tt (plain (λ _. Seat.the_row))) no, tt)

abbrev R : RattleType
R = Interner.the_row

module _ {M : Type 1} {𝓤 : Ura M} (𝓛 : Logic 𝓤) (v : (Seat.the_row).Denot) (b o rb ro : ℕ) where
  -- all of the seat but the interner
  abbrev Rest : Fml
  Rest = fsep (fsep (freed_by_heap (bare (layout R)) (block_ptr b o)) ((Heap.the_row).own_val v.alloc (heap_val ∷ []))) (cell_at full_share (Seat.the_row).mir (word (block_ptr b o) ∷ []) rb ro)

  back : v.at ≡ block_ptr b o → (w : R.Denot) → ent 𝓤 (sep 𝓤 (sem 𝓛 ((mem R).own_at w b o)) (sem 𝓛 Rest)) (sem 𝓛 ((mem Seat.the_row).own_at (with_member v w) rb ro))
  unfolding part_of
  back e w =
      qed 𝓛 (‵ (part_at R full_share w b o) ∷ ‵ Rest ∷ []) ∵ move ! (1 ∷ []) $ fsplit ! $ fsplit ! $
      -- [what frees the memory; the handle; the seat's cell; the interner]
      move ! (3 ∷ 0 ∷ []) $ fjoin ! $ rewrite ! 0 (λ (p : Ptr). ‵ (box_owns freed_by_heap R p w)) (sym e) refl $
      use2 𝓛 (‵ ((Seat.the_row).own_val (with_member v w) (word v.at ∷ []))) (seat_made 𝓛 v.at v.alloc (Some w)) $
      rewrite ! 0 (λ (p : Ptr). ‵ ((Seat.the_row).own_val (with_member v w) (word p ∷ []))) e refl $
      move ! (1 ∷ 0 ∷ []) $ fjoin ! $
      fpack ! (List Val) (λ us. fsep (cell_at full_share (Seat.the_row).mir us rb ro) ((Seat.the_row).own_val (with_member v w) us)) (word (block_ptr b o) ∷ []) $ done !

pub get_mut_spec : {M : Type 1} → statement M
get_mut_spec 𝓤 𝓛 𝓜 𝓡 wired =
    let c = f.clauses 𝓛 𝓜.mem 𝓡.returns in let W = walk_of 𝓛 f.ended stayed c in let 𝓣 = tables 𝓤 𝓛.H 𝓜 𝓡 𝓡.env in
    proved 𝓛 f.ended stayed c 𝓜 𝓡 (Goes-spent_ref 𝓛 1 (0 ∷ []) tt (plain (λ _. Seat.the_row)), tt)
    f.Key.name code.function (code.unfolded 𝓤 𝓛.H 𝓜 𝓡 wired)
    (λ κs. (mut_vals, tt)) (λ κs. (mut_Tells (named 0) κs.0 Seat.the_row, tt)) (λ κs qs bounds a _ are.
    let κ = κs.0 in let q = qs.0 in let rb = a.0.ref_ptr.0 in let ro = a.0.ref_ptr.1 in let γ = a.0.ghost_name in let v = a.0.now in
    let y : W.Ghost = ((κs, qs, bounds, a, (mut_vals a.0, tt)), tt) in let Post : Val → SProp 𝓤 = W.post y in
    qed 𝓛 (((‵ (flft κ q) ⊛ ‵ ftrue) ⊛ ‵ ((MutRef (named 0) κ Seat.the_row).own_val a.0 (mut_vals a.0)) ⊛ ‵ ftrue) ∷ raw (fact 𝓤 (¬ (v.value ≡ None))) ∷ []) ∵
    move ! (1 ∷ []) $ heard ! (¬ (v.value ≡ None)) (λ there. let found = some_of v.value there in let x = found.0 in
    split ! $ split ! $ move ! (2 ∷ []) $ split ! $ keep ! (0 ∷ 2 ∷ []) $
    -- [the reference; the token]
    enter ! _ _ _ _ _ $ alloc_all ! (λ ls. pass_all ! refl ((tt, tt), tt) $ let Ev = env code.Mir.locals ls in
    fsplit3 ! $ move ! (1 ∷ 2 ∷ 3 ∷ []) $ opens ! tt Seat.the_row {h = v} rb ro (λ us.
    move ! (1 ∷ []) $ peeks ! Seat.the_row _ (shows 𝓛 Seat.the_row) v us (λ is. let at_v = seat.lowers.val_is v us is in
    rewrite ! 0 (λ (ws : List Val). ‵ ((Seat.the_row).own_val v ws)) at_v refl $ rewrite ! 1 (λ (ws : List Val). ‵ (cell_at full_share (Seat.the_row).mir ws rb ro)) at_v refl $
    seat_parts ! v (λ fits. rewrite ! 0 (λ (i : Option R.Denot). ‵ (held v.at i)) found.1 refl $
    in_a_block ! v.at (λ p. box_owns freed_by_heap R p x) (fst∗ 𝓤 (never 𝓤) (sem 𝓛 (freed_by_heap (bare (layout R)) null_ptr))) (λ b o e. fsplit ! $
    -- [the interner; what frees its memory; the handle; the seat's cell; the open borrow, in three entries]
    rewrite ! 3 (λ (p : Ptr). ‵ (cell_at full_share (Seat.the_row).mir (word p ∷ []) rb ro)) e refl $
    first ! $ blocks ! $
    sets ! (of_opd ! (load ! (through ! refl (fld ! refl (stop !))) (look_in ! 3 (sub ! 0 refl (whole !))))) refl (tt, tt) $
    sets ! (of_opd ! (get ! refl)) refl (tt, tt) $
    sets_last ! (addr ! (through ! refl (stop !))) refl (tt, tt) $
    exec ! 𝓣.C 𝓣.Λ Ev (after 1 (code.function).body) (at_ret Ev Post) $
    sets ! (of_opd ! (get ! refl)) refl (tt, tt) $
    move ! (1 ∷ 2 ∷ []) $ fjoin ! $ move ! (0 ∷ 2 ∷ []) $ fjoin ! $ move ! (2 ∷ 3 ∷ 4 ∷ 1 ∷ 0 ∷ []) $ group ! 5 $
    use1 𝓛 (later (some (λ (γ' : GName). raw (Part 𝓛 Seat.the_row R (with_member v) (named 0) κ q rb ro b o γ (sem 𝓛 (Rest 𝓛 v b o rb ro)) (back 𝓛 v b o rb ro e) x γ'))))
    (lends_Part 𝓛 Seat.the_row R (with_member v) (named 0) κ q rb ro b o γ (sem 𝓛 (Rest 𝓛 v b o rb ro)) (back 𝓛 v b o rb ro e) ((Seat.the_row).coded.code v) ((Seat.the_row).coded.code v) x) $ await ! tt $ pick ! (λ γ'.
    use1 𝓛 (‵ ((MutRef (named 0) κ R).own_val (record { ref_ptr = (b, o); ghost_name = γ'; now = x }) (vptr b o ∷ [])) ⊛ ‵ (flft κ q) ⊛ ‵ (follows Seat.the_row R γ γ' (with_member v))) (id⊢ 𝓤 _) $ split3 ! $
    returns ! (look_at ! 0 refl) $ free_all ! refl $ keep ! (0 ∷ 1 ∷ 2 ∷ []) $
    suffices ! _ (ends_at 𝓛 f.ended stayed c y (vptr b o) (record { ref_ptr = (b, o); ghost_name = γ'; now = x }) (tt, tt) (tt, tt)) $
    nothing ! $ nothing ! $ fjoin ! $ join ! $ nothing ! $ move ! (2 ∷ 0 ∷ []) $ join ! $ join ! $ frame ! $ says ! found.1 $ done !))))))))
