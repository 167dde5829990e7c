-- `into_box` calls `from_raw`, to which the seat gives the memory that it holds. The call wants two lifetimes within those of the
-- box's types, which have no end, so one that is made for it serves twice.
use Rattle.std.proofs.Common.{◌≡◌, List, [], ◌∷◌, refl, sym, ap, ◌∙◌}
use Rattle.std.specs.Prelude.{Option, None, Some}
use mir.Val.{Val}
use base.Logic.{SProp, emp, id⊢}
use base.Fml.{ftrue, flft}
use base.Fraction.{full_share}
use base.Share
use contract.Lifetimes.{Lfts}
use contract.Monad.{fact, fact_i}
use contract.BorrowLft.{◌⊑◌, ⊑_static}
use contract.Running.{tables}
use types.Kit.{Item, ‵, raw, ◌⊛◌, some, later, at_ret, ◌$◌, ◌∵◌, !, qed, done, move, keep, drop, use0, use1, split, join, fjoin, pick, feq_i, await, rewrite, suffices}
use types.Run.{enter, of_opd, and_then, no_more, returns, stop, fld, first, blocks, exec}
use types.ByLocal.{alloc_all, pass_all, free_all, look_at, get, get_in, sets, lands_last, env}
use types.Part.{sub, whole}
use types.Tokens.{lft_new}
use denote.Exit.{yes}
use denote.RattleType.{RattleType}
use denote.RawPtr.{ptr_val}
use denote.Laws.{Is, shows}
use denote.Param.NoDrop.{glues}
use denote.Signature.{plain}
use denote.Steps.{nothing, heard, peeks}
use denote.Triple.Call.{calls_at_last}
use denote.Triple.Clauses.{Lasts, lasts}
use denote.Triple.Spec.{triple_of}
use denote.Triple.Walked.{Stays, stay_dropped, walk_of, says, Goes-dropped, ends_at}
use Rattle.core.proofs.atomic.Steps.{Ptr-Good, fm}
use Rattle.std.proofs.raw_atomic.Walks.{proved}
use Rattle.std_heap.proofs.Handle.{heap_val}
use Rattle.std_heap.specs.contracts.Global as Heap
use Rattle.std_heap.proofs.Global.TheLaws as heap
use Rattle.std_heap.specs.contracts.GlobalAllocator.TheImpl.{ghosts, dict}
use Rattle.std_heap.proofs.GlobalAllocator.TheImpl.Met.{passed}
use Rattle.std_alloc.specs.contracts.boxed.Box as Box
use Rattle.std_alloc.proofs.boxed.Box.TheLaws as box
use Rattle.std_alloc.specs.contracts.boxed.Box.from_raw as callee
use Rattle.std_alloc.proofs.boxed.Box.from_raw.Met.{met}
use Rattle.lasso_c.specs.SharedHeld.{held}
use Rattle.lasso_c.specs.contracts.shared.member.Member as Interner
use Rattle.lasso_c.proofs.shared.member.Member.TheLaws as interner
use Rattle.lasso_c.specs.contracts.shared.seat.Seat as Seat
use Rattle.lasso_c.proofs.shared.seat.Seat.TheLaws as seat
use Rattle.lasso_c.specs.contracts.shared.seat.Seat.into_box as f
use Rattle.lasso_c.proofs.Destruct++none.drop.Code as no_drop
use Rattle.lasso_c.proofs.SeatValues.{passed_as, heap_laws, lets_go, some_of, word}
use Rattle.lasso_c.proofs.SharedSeats.{interner_laws, word_fits, seat_parts}
use Rattle.lasso_c.proofs.shared.seat.Seat.into_box.Statement.{statement}
use Rattle.lasso_c.proofs.shared.seat.Seat.into_box.Code as code

abbrev stayed : Stays f.ended.signature.params f.ended.kept
stayed = (stay_dropped (plain (λ _. Seat.the_row)) yes, tt)

abbrev B : RattleType
B = Box.the_row Interner.the_row Heap.the_row ghosts

pub into_box_spec : {M : Type 1} → statement M
unfolding no_drop.code
into_box_spec {M} 𝓤 𝓛 𝓜 𝓡 wired =
    let c = f.clauses 𝓛 𝓜.mem 𝓡.returns in let W = walk_of 𝓛 f.ended stayed c in let 𝓣 = tables 𝓤 𝓛.H 𝓜 𝓡 𝓡.env in
    proved 𝓛 f.ended stayed c 𝓜 𝓡 (Goes-dropped 𝓛 0 (plain (λ _. Seat.the_row)) yes (λ κs x w. refl), tt)
    f.Key.name code.function (code.unfolded 𝓤 𝓛.H 𝓜 𝓡 wired)
    (λ κs. ((λ d. word d.at ∷ []), tt)) (λ κs. (seat.lowers.val_is, tt)) (λ κs qs bounds v _ are.
    let y : W.Ghost = ((κs, qs, bounds, v, (word v.0.at ∷ [], tt)), tt) in let Post : Val → SProp 𝓤 = W.post y in
    let at = v.0.at in let a = v.0.alloc in
    qed 𝓛 ((‵ ftrue ⊛ ‵ ((Seat.the_row).own_val v.0 (word at ∷ [])) ⊛ ‵ ftrue) ∷ raw (fact 𝓤 (¬ (v.0.value ≡ None))) ∷ []) ∵
    move ! (1 ∷ []) $ heard ! (¬ (v.0.value ≡ None)) (λ there. let found = some_of v.0.value there in let x = found.0 in
    let G = triple_of 𝓛 (callee.signature (passed_as Interner.the_row) (passed_as Heap.the_row) ghosts dict lets_go) (callee.spec (passed_as Interner.the_row) (passed_as Heap.the_row) ghosts dict lets_go 𝓛 𝓜.mem 𝓡.returns) in
    split ! $ move ! (1 ∷ []) $ split ! $ seat_parts ! v.0 (λ fits. rewrite ! 0 (λ (o : Option (Interner.the_row).Denot). ‵ (held at o)) found.1 refl $ keep ! (0 ∷ 1 ∷ []) $
    -- [the memory; the handle]
    enter ! _ _ _ _ _ $ alloc_all ! (λ ls. pass_all ! refl (word_fits at, tt) $ let Ev = env code.Mir.locals ls in
    sets ! (of_opd ! (get_in ! (fld ! refl (stop !)) (sub ! 0 refl (whole !)))) refl (Ptr-Good at) $
    sets ! (of_opd ! (get_in ! (fld ! refl (stop !)) (sub ! 1 refl (whole !)))) refl fits $
    first ! $ blocks ! $ sets ! (of_opd ! (get ! refl)) refl (Ptr-Good at) $
    lft_new ! tt (λ α. let κ = α ∷ [] in let l = Share.left full_share in let r = Share.right full_share in
    let κs' : Lfts 2 = (κ, (κ, tt)) in
    let z : G.Ghost = ((κs', (l, (r, tt)), tt, (a, (at, tt)), (heap_val ∷ [], (ptr_val at ∷ [], tt))), x) in
    let halves : Item 𝓤 = ‵ (flft κ l) ⊛ ‵ (flft κ r) ⊛ ‵ ftrue in
    use1 𝓛 (‵ (flft κ l) ⊛ ‵ (flft κ r)) (𝓛.lfts.lft_split κ full_share) $ split ! $ nothing ! $ move ! (2 ∷ 0 ∷ []) $ join ! $ move ! (1 ∷ 0 ∷ []) $ join ! $
    -- [the halves of the token; the memory; the handle]
    move ! (1 ∷ []) $ use0 𝓛 (raw (fact 𝓤 (κ ⊑ (Heap.the_row).lives))) (fact_i 𝓤 (κ ⊑ (Heap.the_row).lives) (emp 𝓤) (⊑_static κ)) $ join ! $
    use0 𝓛 (raw (fact 𝓤 (κ ⊑ (Interner.the_row).lives))) (fact_i 𝓤 (κ ⊑ (Interner.the_row).lives) (emp 𝓤) (⊑_static κ)) $ join ! $
    -- [what the call requires; the halves; the handle]
    nothing ! $ feq_i ! (List Val) (ptr_val at ∷ []) (ptr_val at ∷ []) refl $ fjoin ! $ move ! (3 ∷ 0 ∷ []) $ fjoin ! $ move ! (2 ∷ 0 ∷ []) $ join ! $ join ! $
    use1 𝓛 (raw (G.pre z)) (id⊢ 𝓤 _) $
    calls_at_last ! (fm 𝓛 𝓜 𝓡) G (met 𝓤 𝓛 𝓜 𝓡 (code.calls-std_alloc::boxed::Box::from_raw 𝓡.env wired) (passed_as Interner.the_row) (passed_as Heap.the_row) interner_laws heap_laws ghosts dict lets_go
    (passed 𝓡.env (code.calls-std_heap::GlobalAllocator::allocate 𝓡.env wired) (code.calls-std_heap::GlobalAllocator::deallocate 𝓡.env wired) (code.calls-std_heap::GlobalAllocator::grow 𝓡.env wired) (code.calls-std_heap::GlobalAllocator::shrink 𝓡.env wired) M 𝓤 𝓛 𝓜 𝓡)
    (glues "lasso_c::Destruct++none::drop" 𝓡.env (code.calls-lasso_c::Destruct++none::drop 𝓡.env wired) (passed_as Heap.the_row) heap_laws M 𝓤 𝓛 𝓜 𝓡)) z
    (and_then ! (get ! refl) (and_then ! (get ! refl) (no_more !))) (λ u.
    use1 𝓛 (later (some (λ (made : B.Denot). (halves ⊛ ‵ (B.own_val made (u ∷ []))) ⊛ some (λ (ws : Lasts (callee.ended (passed_as Interner.the_row) (passed_as Heap.the_row) ghosts dict lets_go) κs' z.0.3). ‵ (lasts (callee.ended (passed_as Interner.the_row) (passed_as Heap.the_row) ghosts dict lets_go) κs' z.0.3 ws) ⊛ (raw (fact 𝓤 (made.value ≡ x)) ⊛ raw (fact 𝓤 (made.alloc ≡ a))))))) (id⊢ 𝓤 (G.post z u)) $
    await ! tt $ pick ! (λ made. split ! $ split ! $ move ! (2 ∷ []) $ pick ! (λ ws. split ! $ drop ! $ split ! $ heard ! (made.value ≡ x) (λ same. drop ! $ drop ! $
    -- [the box]
    peeks ! B (Is B) (shows 𝓛 B) made (u ∷ []) (λ is. let good = (((box.the_row_laws Interner.the_row Heap.the_row ghosts interner.the_row_laws heap.the_row_laws).lawful 𝓛).typed made (u ∷ []) is).0 in
    lands_last ! refl good $ exec ! 𝓣.C 𝓣.Λ Ev code.Mir.t-4 (at_ret _ Post) $ sets ! (of_opd ! (get ! refl)) refl good $
    returns ! (look_at ! 0 refl) $ free_all ! refl $
    suffices ! _ (ends_at 𝓛 f.ended stayed c y u made (tt, tt) (tt, tt)) $ says ! (found.1 ∙ ap Some (sym same)) $
    nothing ! $ nothing ! $ join ! $ nothing ! $ done !))))))))))
