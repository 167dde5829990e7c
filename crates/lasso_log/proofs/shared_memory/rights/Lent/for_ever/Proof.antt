-- `for_ever` leaves the two words of a `&` that never ends, and keeps what it holds.
use Rattle.lasso_log.proofs.WalkWords.{[], ◌∷◌, List, ℕ, refl, Val, vptr, ftrue, ‵, raw, ◌⊛◌, ◌$◌, ◌∵◌, !, qed, by, keep, move, split, fsplit, fjoin, let_go, feq_i, use0, use2, no_more, and_then, stop, fld, returns, enter, alloc_all, pass_all, free_all, look_at, get, sets, agg, sub, whole, tables, yes, Stays, stay_dropped, Goes-dropped, walk_of, proved, owns, types_at, plain, RawPtr, u8, unit, RattleType, nothing, unhide, SliceRefOf, block_ptr, shr_slice_vals, token, Token, token_made, ends, says_three, Tuple}
use types.Run.{addr, from, hop}
use types.ByLocal.{look_in_at}
use Rattle.std_alloc.proofs.Pairs.{pair_val, pair_of}
use Rattle.lasso_log.specs.contracts.shared_memory.rights.Lent as Lent
use Rattle.lasso_log.specs.contracts.shared_memory.rights.Lent.for_ever as f
use Rattle.lasso_log.proofs.shared_memory.rights.Lent.for_ever.Statement.{statement}
use Rattle.lasso_log.proofs.shared_memory.rights.Lent.for_ever.Code as code

abbrev stayed : Stays f.ended.signature.params f.ended.kept
stayed = (stay_dropped (SliceRefOf [] tt (plain (λ _. u8)) (λ _. tt)) yes, tt)

pub for_ever_spec : {M : Type 1} → statement M
for_ever_spec 𝓤 𝓛 𝓜 𝓡 wired =
    let c = f.clauses 𝓛 𝓜.mem 𝓡.returns in let W = walk_of 𝓛 f.ended stayed c in let 𝓣 = tables 𝓤 𝓛.H 𝓜 𝓡 𝓡.env in
    proved 𝓛 f.ended stayed c 𝓜 𝓡 (Goes-dropped 𝓛 0 (SliceRefOf [] tt (plain (λ _. u8)) (λ _. tt)) yes (λ κs x w. refl), tt)
    f.Key.name code.function (code.unfolded 𝓤 𝓛.H 𝓜 𝓡 wired) (λ κs. (shr_slice_vals, tt)) (λ κs. ((λ x vs told. told.0.0), tt)) (λ κs qs bounds a gh are.
    let bytes : List ℕ = a.0.now in let b : ℕ = a.0.ref_ptr.0 in let o : ℕ = a.0.ref_ptr.1 in let L : RattleType = Lent.the_row in
    let y : W.Ghost = ((κs, qs, bounds, a, (shr_slice_vals a.0, tt)), gh) in
    let r : L.Denot = record { marker = record {}; until = []; at = block_ptr b o; bytes = bytes } in
    qed 𝓛 ((‵ ftrue ⊛ ‵ (owns (types_at f.ended.signature.params κs) a y.0.4)) ∷ raw ((c κs a).requires gh) ∷ []) ∵
    keep ! (0 ∷ []) $ split ! $ move ! (1 ∷ []) $ fsplit ! $ fsplit ! $ let_go ! $ unhide ! $
    -- [a `&` to each byte; nothing; nothing]
    enter ! _ _ _ _ _ $ alloc_all ! (λ l. pass_all ! refl ((tt, (tt, (record { fits = are.0.0.1.0 }, tt))), tt) $
    sets ! (addr ! (from ! (fld ! refl (hop ! (look_in_at ! 1 (sub ! 0 refl (whole !))) (stop !))))) refl (tt, tt) $
    sets ! (agg ! (no_more !)) refl (tt, tt) $ sets ! (agg ! (and_then ! (get ! refl) (no_more !))) refl (tt, (tt, tt)) $
    sets ! (agg ! (and_then ! (get ! refl) (and_then ! (get ! refl) (no_more !)))) refl (tt, (tt, ((tt, tt), tt))) $
    use0 𝓛 (‵ ((Token unit).own_val (record {}, tt) (token ∷ []))) (token_made unit 𝓛) $ fjoin ! $ feq_i ! (List Val) (vptr b o ∷ []) (vptr b o ∷ []) refl $
    use2 𝓛 (‵ ((Tuple (RawPtr ∷ L ∷ [])).own_val (block_ptr b o, r) (pair_val (vptr b o) token ∷ []))) (pair_of 𝓛 RawPtr L (block_ptr b o) r (vptr b o) token) $
    nothing ! $ nothing ! $ fjoin ! $
    returns ! (look_at ! 0 refl) $ free_all ! refl $ keep ! (3 ∷ 0 ∷ 1 ∷ []) $
    by ! (ends 𝓛 f.ended stayed c y (pair_val (vptr b o) token) (block_ptr b o, r) (tt, tt) (tt, tt) (says_three 𝓛 _ _ _ refl (refl, refl) refl))))
