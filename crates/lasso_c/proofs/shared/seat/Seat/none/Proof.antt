-- `none` puts the null pointer beside the handle, and owns nothing.
use Rattle.std.proofs.Common.{[], ◌∷◌, refl}
use Rattle.std.specs.Prelude.{None}
use Rattle.std.proofs.raw_atomic.Walks.{proved}
use base.Fml.{ftrue}
use types.Kit.{‵, ◌⊛◌, ◌$◌, ◌∵◌, !, qed, done, move, keep, use2, split, join, suffices}
use types.Run.{enter, lit, and_then, no_more, returns}
use types.ByLocal.{alloc_all, pass_all, free_all, look_at, get, sets}
use types.Part.{agg}
use denote.Exit.{yes}
use denote.RawPtr.{null_ptr}
use denote.Signature.{plain}
use denote.Steps.{nothing}
use denote.Triple.Walked.{Stays, walk_of, says, stay_dropped, Goes-dropped, ends_at}
use Rattle.std_heap.proofs.Handle.{heap_val, heap_Tells}
use Rattle.std_heap.specs.contracts.Global as Heap
use Rattle.std_heap.proofs.Global.TheLaws as heap
use Rattle.lasso_c.specs.contracts.shared.seat.Seat as Seat
use Rattle.lasso_c.specs.contracts.shared.seat.Seat.none as f
use Rattle.lasso_c.proofs.SeatValues.{word}
use Rattle.lasso_c.proofs.SharedSeats.{word_fits, seat_made}
use Rattle.lasso_c.proofs.shared.seat.Seat.none.Statement.{statement}
use Rattle.lasso_c.proofs.shared.seat.Seat.none.Code as code

abbrev stayed : Stays f.ended.signature.params f.ended.kept
stayed = (stay_dropped (plain (λ _. Heap.the_row)) yes, tt)

pub none_spec : {M : Type 1} → statement M
none_spec 𝓤 𝓛 𝓜 𝓡 wired =
    let c = f.clauses 𝓛 𝓜.mem 𝓡.returns in let W = walk_of 𝓛 f.ended stayed c in
    proved 𝓛 f.ended stayed c 𝓜 𝓡 (Goes-dropped 𝓛 0 (plain (λ _. Heap.the_row)) yes (λ κs x w. refl), tt)
    f.Key.name code.function (code.unfolded 𝓤 𝓛.H 𝓜 𝓡 wired)
    (λ κs. ((λ _. heap_val ∷ []), tt)) (λ κs. (heap_Tells, tt)) (λ κs qs bounds a _ are.
    let y : W.Ghost = ((κs, qs, bounds, a, (heap_val ∷ [], tt)), tt) in
    let fits = (((heap.the_row_laws).lawful 𝓛).typed a.0 (heap_val ∷ []) are.0).0 in
    qed 𝓛 ((‵ ftrue ⊛ ‵ ((Heap.the_row).own_val a.0 (heap_val ∷ [])) ⊛ ‵ ftrue) ∷ ‵ ftrue ∷ []) ∵ split ! $ move ! (1 ∷ []) $ split ! $ keep ! (0 ∷ []) $
    enter ! _ _ _ _ _ $ alloc_all ! (λ l. pass_all ! refl (fits, tt) $
    sets ! (agg ! (and_then ! (lit ! tt) (and_then ! (get ! refl) (no_more !)))) refl (word_fits null_ptr) $
    returns ! (look_at ! 0 refl) $ free_all ! refl $
    nothing ! $ use2 𝓛 (‵ ((Seat.the_row).own_val (record { at = null_ptr; alloc = a.0; value = None }) (word null_ptr ∷ []))) (seat_made 𝓛 null_ptr a.0 None) $
    suffices ! _ (ends_at 𝓛 f.ended stayed c y (word null_ptr) (record { at = null_ptr; alloc = a.0; value = None }) (tt, tt) (tt, tt)) $ says ! (refl, refl) $
    nothing ! $ nothing ! $ join ! $ nothing ! $ done !))
