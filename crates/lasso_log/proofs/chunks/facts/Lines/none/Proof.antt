-- `none` makes facts of no text, for which nothing is owed.
use Rattle.lasso_log.proofs.WalkWords.{[], ◌∷◌, refl, a_type, dcons, dnil, named, inst_fn, Val, vptr, SProp, ‵, raw, ◌⊛◌, ◌$◌, ◌∵◌, !, qed, by, keep, split, fjoin, use0, no_more, and_then, returns, enter, alloc_all, pass_all, free_all, look_at, get, sets, agg, says_two, tables, yes, RattleType, owns, types_at, plain, RefOf, shr_vals, shr_Tells, param, bounded, nothing, Tuple, alive, Stays, stay_dropped, walk_of, Goes-dropped, proved, token, Token, token_made, ends}
use Rattle.lasso_log.specs.contracts.chunks.facts.Lines.none.{ended, clauses}
use Rattle.lasso_log.specs.contracts.chunks.facts.Lines.none.Key.{name as #self}
use Rattle.lasso_log.proofs.chunks.facts.Lines.none.Statement.{statement}
use Rattle.lasso_log.proofs.chunks.facts.Lines.none.Code as code

pub none_spec : {M : Type 1} → statement M
none_spec 𝓤 𝓛 𝓜 𝓡 wired T V X N _ _ _ _ gt dt gv dv gn dn _ _ _ =
    let H = 𝓛.H in let 𝓣 = tables 𝓤 H 𝓜 𝓡 𝓡.env in let T' : RattleType = param 0 T in let V' : RattleType = param 1 V in let X' : RattleType = param 2 X in
    let En = ended T V X N gt dt gv dv gn dn in let c = clauses T V X N gt dt gv dv gn dn 𝓛 𝓜.mem 𝓡.returns in
    let inst = bounded (a_type ∷ a_type ∷ a_type ∷ a_type ∷ []) (T, (V, (X, (N, tt)))) (dcons dt (dcons dv (dcons dn dnil))) in let fn = inst_fn inst code.function in
    let All : RattleType = Tuple (T' ∷ V' ∷ []) in
    let hs : Stays En.signature.params En.kept = (stay_dropped (RefOf (0 ∷ []) tt (plain (λ _. X')) (λ _. tt)) yes, tt) in
    proved 𝓛 En hs c 𝓜 𝓡 (Goes-dropped 𝓛 5 (RefOf (0 ∷ []) tt (plain (λ _. X')) (λ _. tt)) yes (λ κs x f. refl), tt)
    (#self inst) fn (code.unfolded 𝓤 H 𝓜 𝓡 wired (T, (V, (X, (N, tt)))) dt dv dn)
    (λ κs. (shr_vals, tt)) (λ κs. (shr_Tells (named 0) κs.0 X', tt)) (λ κs qs bounds a gh are.
    let p : Val = vptr a.0.ref_ptr.0 a.0.ref_ptr.1 in
    let y : (walk_of 𝓛 En hs c).Ghost = ((κs, qs, bounds, a, (p ∷ [], tt)), gh) in let Post : Val → SProp 𝓤 = (walk_of 𝓛 En hs c).post y in
    qed 𝓛 ((raw (alive 𝓛 En.signature κs qs) ⊛ ‵ (owns (types_at En.signature.params κs) a y.0.4)) ∷ raw ((c κs a).requires gh) ∷ []) ∵
    keep ! (0 ∷ []) $ split ! $ keep ! (0 ∷ []) $
    enter ! 𝓣.C 𝓣.Λ fn (p ∷ []) Post $ alloc_all ! (λ l. pass_all ! refl ((tt, tt), tt) $
    nothing ! $ use0 𝓛 (‵ ((Token All).own_val (record {}, tt) (token ∷ []))) (token_made All 𝓛) $ fjoin ! $ sets ! (agg ! (no_more !)) refl (tt, tt) $ sets ! (agg ! (and_then ! (get ! refl) (no_more !))) refl (tt, (tt, tt)) $
    nothing ! $ nothing ! $ fjoin ! $
    returns ! (look_at ! 0 refl) $ free_all ! refl $ keep ! (2 ∷ 0 ∷ 1 ∷ []) $
    by ! (ends 𝓛 En hs c y token (record { marker = record {}; names = gn.numbers a.0.now; texts = [] }) (tt, tt) (tt, tt) (says_two 𝓛 _ _ refl refl))))
