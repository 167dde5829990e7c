-- `of_block` puts the block's pointer beside the handle. The block's memory is then the seat's.
use Rattle.std.proofs.Common.{[], ◌∷◌, refl}
use Rattle.std.specs.Prelude.{Some}
use Rattle.std.proofs.raw_atomic.Walks.{proved}
use base.Fml.{ftrue}
use types.Kit.{‵, ◌⊛◌, ◌$◌, ◌∵◌, !, qed, done, move, keep, use2, split, fsplit, join, suffices}
use types.Run.{enter, of_opd, and_then, no_more, returns, stop, fld}
use types.ByLocal.{alloc_all, pass_all, free_all, look_at, get, get_in, sets}
use types.Part.{agg, sub, whole}
use denote.Exit.{yes}
use denote.Signature.{plain}
use denote.Steps.{nothing}
use denote.Triple.Walked.{Stays, walk_of, says, stay_dropped, Goes-dropped, ends_at}
use Rattle.core.proofs.atomic.Steps.{Ptr-Good}
use Rattle.std_heap.proofs.Handle.{heap_val, heap_Tells}
use Rattle.std_heap.specs.contracts.Global as Heap
use Rattle.std_heap.proofs.Global.TheLaws as heap
use Rattle.lasso_c.specs.contracts.seat.Block as Block
use Rattle.lasso_c.proofs.seat.Block.TheLaws as block
use Rattle.lasso_c.specs.contracts.shared.member.Member as Interner
use Rattle.lasso_c.proofs.shared.member.Member.TheLaws as interner
use Rattle.lasso_c.specs.contracts.shared.seat.Seat as Seat
use Rattle.lasso_c.specs.contracts.shared.seat.Seat.of_block as f
use Rattle.lasso_c.proofs.SeatValues.{lone_word, lone_word_fits, word}
use Rattle.lasso_c.proofs.SharedSeats.{word_fits, seat_made}
use Rattle.lasso_c.proofs.shared.seat.Seat.of_block.Statement.{statement}
use Rattle.lasso_c.proofs.shared.seat.Seat.of_block.Code as code

abbrev stayed : Stays f.ended.signature.params f.ended.kept
stayed = (stay_dropped (plain (λ _. Heap.the_row)) yes, (stay_dropped (plain (λ _. Block.the_row Interner.the_row)) yes, tt))

pub of_block_spec : {M : Type 1} → statement M
of_block_spec 𝓤 𝓛 𝓜 𝓡 wired =
    let c = f.clauses 𝓛 𝓜.mem 𝓡.returns in let W = walk_of 𝓛 f.ended stayed c in
    proved 𝓛 f.ended stayed c 𝓜 𝓡 (Goes-dropped 𝓛 0 (plain (λ _. Heap.the_row)) yes (λ κs x w. refl), (Goes-dropped 𝓛 0 (plain (λ _. Block.the_row Interner.the_row)) yes (λ κs x w. refl), tt))
    f.Key.name code.function (code.unfolded 𝓤 𝓛.H 𝓜 𝓡 wired)
    (λ κs. ((λ _. heap_val ∷ []), ((λ d. lone_word d.at ∷ []), tt))) (λ κs. (heap_Tells, ((block.lowers Interner.the_row interner.the_row_laws).val_is, tt))) (λ κs qs bounds a _ are.
    let y : W.Ghost = ((κs, qs, bounds, a, (heap_val ∷ [], (lone_word a.1.0.at ∷ [], tt))), tt) in
    let fits = (((heap.the_row_laws).lawful 𝓛).typed a.0 (heap_val ∷ []) are.0).0 in
    let at = a.1.0.at in let made : (Seat.the_row).Denot = record { at = at; alloc = a.0; value = Some a.1.0.value } in
    qed 𝓛 ((‵ ftrue ⊛ ‵ ((Heap.the_row).own_val a.0 (heap_val ∷ [])) ⊛ ‵ ((Block.the_row Interner.the_row).own_val a.1.0 (lone_word at ∷ [])) ⊛ ‵ ftrue) ∷ ‵ ftrue ∷ []) ∵
    split ! $ move ! (1 ∷ []) $ split ! $ move ! (1 ∷ []) $ split ! $ fsplit ! $ keep ! (1 ∷ 3 ∷ []) $
    -- [the memory; the handle]
    use2 𝓛 (‵ ((Seat.the_row).own_val made (word at ∷ []))) (seat_made 𝓛 at a.0 (Some a.1.0.value)) $
    enter ! _ _ _ _ _ $ alloc_all ! (λ l. pass_all ! refl (fits, (lone_word_fits Interner.the_row at, tt)) $
    sets ! (of_opd ! (get_in ! (fld ! refl (stop !)) (sub ! 0 refl (whole !)))) refl (Ptr-Good at) $
    sets ! (of_opd ! (get ! refl)) refl (Ptr-Good at) $
    sets ! (agg ! (and_then ! (get ! refl) (and_then ! (get ! refl) (no_more !)))) refl (word_fits at) $
    returns ! (look_at ! 0 refl) $ free_all ! refl $
    suffices ! _ (ends_at 𝓛 f.ended stayed c y (word at) made (tt, (tt, tt)) (tt, (tt, tt))) $ says ! refl $
    nothing ! $ nothing ! $ join ! $ nothing ! $ join ! $ nothing ! $ done !))
