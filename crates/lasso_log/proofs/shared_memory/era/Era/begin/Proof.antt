-- `begin` makes a lifetime, and keeps its whole token.
use Rattle.lasso_log.proofs.WalkWords.{[], ◌∷◌, refl, Val, SProp, emp, id⊢, ‵, raw, ◌⊛◌, ◌$◌, ◌∵◌, !, qed, by, keep, move, split, fjoin, use0, no_more, and_then, returns, enter, alloc_all, pass_all, free_all, look_at, get, sets, agg, tables, Stays, walk_of, proved, token, Token, token_made, ends, owns, types_at, alive, unit, lft_new}
use Rattle.lasso_log.specs.contracts.shared_memory.era.Era.begin.{ended, clauses}
use Rattle.lasso_log.specs.contracts.shared_memory.era.Era.begin.Key.{name as #self}
use Rattle.lasso_log.proofs.shared_memory.era.Era.begin.Statement.{statement}
use Rattle.lasso_log.proofs.shared_memory.era.Era.begin.Code as code

pub begin_spec : {M : Type 1} → statement M
begin_spec 𝓤 𝓛 𝓜 𝓡 wired =
    let H = 𝓛.H in let 𝓣 = tables 𝓤 H 𝓜 𝓡 𝓡.env in let fn = code.function in let c = clauses 𝓛 𝓜.mem 𝓡.returns in
    let hs : Stays ended.signature.params ended.kept = tt in
    proved 𝓛 ended hs c 𝓜 𝓡 tt #self fn (code.unfolded 𝓤 H 𝓜 𝓡 wired) (λ κs. tt) (λ κs. tt) (λ κs qs bounds a gh are.
    let y : (walk_of 𝓛 ended hs c).Ghost = ((κs, qs, bounds, a, tt), gh) in let Post : Val → SProp 𝓤 = (walk_of 𝓛 ended hs c).post y in
    qed 𝓛 ((raw (alive 𝓛 ended.signature κs qs) ⊛ ‵ (owns (types_at ended.signature.params κs) a y.0.4)) ∷ raw ((c κs a).requires gh) ∷ []) ∵ keep ! (0 ∷ []) $ split ! $
    enter ! 𝓣.C 𝓣.Λ fn [] Post $ alloc_all ! (λ l. pass_all ! refl tt $ lft_new ! tt (λ α.
    use0 𝓛 (‵ ((Token unit).own_val (record {}, tt) (token ∷ []))) (token_made unit 𝓛) $ fjoin ! $
    sets ! (agg ! (no_more !)) refl (tt, tt) $ sets ! (agg ! (and_then ! (get ! refl) (no_more !))) refl (tt, (tt, tt)) $
    returns ! (look_at ! 0 refl) $ free_all ! refl $ move ! (1 ∷ 2 ∷ 0 ∷ []) $
    by ! (ends 𝓛 ended hs c y token (record { marker = record {}; id = α }) tt tt (id⊢ 𝓤 (emp 𝓤))))))
