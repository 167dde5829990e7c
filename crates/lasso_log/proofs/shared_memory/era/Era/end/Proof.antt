-- `end` gives up the whole token of a lifetime, which is over then.
use Rattle.lasso_log.proofs.WalkWords.{[], ◌∷◌, refl, Val, SProp, emp, ‵, raw, ◌⊛◌, ◌$◌, ◌∵◌, !, qed, by, keep, move, split, fsplit, fjoin, use0, no_more, and_then, returns, enter, alloc_all, pass_all, free_all, look_at, get, sets, agg, tables, Stays, stay_dropped, Goes-dropped, walk_of, proved, token, Token, token_made, token_told, ends, owns, types_at, plain, alive, unit, lft_end, nothing, fact_i, yes, let_go}
use Rattle.lasso_log.specs.contracts.shared_memory.era.Era as Era
use Rattle.lasso_log.specs.contracts.shared_memory.era.Era.end.{ended, clauses}
use Rattle.lasso_log.specs.contracts.shared_memory.era.Era.end.Key.{name as #self}
use Rattle.lasso_log.proofs.shared_memory.era.Era.end.Statement.{statement}
use Rattle.lasso_log.proofs.shared_memory.era.Era.end.Code as code

pub end_spec : {M : Type 1} → statement M
end_spec 𝓤 𝓛 𝓜 𝓡 wired =
    let H = 𝓛.H in let 𝓣 = tables 𝓤 H 𝓜 𝓡 𝓡.env in let fn = code.function in let c = clauses 𝓛 𝓜.mem 𝓡.returns in
    let hs : Stays ended.signature.params ended.kept = (stay_dropped (plain (λ _. Era.the_row)) yes, tt) in
    proved 𝓛 ended hs c 𝓜 𝓡 (Goes-dropped 𝓛 0 (plain (λ _. Era.the_row)) yes (λ κs x f. refl), tt) #self fn (code.unfolded 𝓤 H 𝓜 𝓡 wired)
    (λ κs. ((λ x. token ∷ []), tt)) (λ κs. ((λ x vs is. token_told unit vs is.0), tt)) (λ κs qs bounds a gh are.
    let y : (walk_of 𝓛 ended hs c).Ghost = ((κs, qs, bounds, a, (token ∷ [], tt)), gh) in let Post : Val → SProp 𝓤 = (walk_of 𝓛 ended hs c).post y in
    qed 𝓛 ((raw (alive 𝓛 ended.signature κs qs) ⊛ ‵ (owns (types_at ended.signature.params κs) a y.0.4)) ∷ raw ((c κs a).requires gh) ∷ []) ∵ keep ! (0 ∷ []) $ split ! $
    move ! (1 ∷ []) $ fsplit ! $ fsplit ! $ let_go ! $
    -- [the era's token; nothing; nothing]
    enter ! 𝓣.C 𝓣.Λ fn (token ∷ []) Post $ alloc_all ! (λ l. pass_all ! refl ((tt, (tt, tt)), tt) $ lft_end ! tt {α = a.0.id} $
    use0 𝓛 (‵ ((Token unit).own_val (record {}, tt) (token ∷ []))) (token_made unit 𝓛) $ fjoin ! $
    sets ! (agg ! (no_more !)) refl (tt, tt) $ sets ! (agg ! (and_then ! (get ! refl) (no_more !))) refl (tt, (tt, tt)) $
    nothing ! $ nothing ! $ fjoin ! $
    returns ! (look_at ! 0 refl) $ free_all ! refl $ keep ! (3 ∷ 0 ∷ 1 ∷ []) $
    by ! (ends 𝓛 ended hs c y token (record { marker = record {}; id = a.0.id }) (tt, tt) (tt, tt) (fact_i 𝓤 _ (emp 𝓤) refl))))
