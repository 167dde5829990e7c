-- `right_taken` takes a gain apart: by the note that the update asked for, it is the right to the bytes that the note tells of.
use Rattle.lasso_log.proofs.WalkWords.{◌≡◌, ◌+◌, List, [], ◌∷◌, refl, subst, a_type, dcons, dnil, inst_fn, Val, SProp, emp, ‵, raw, ◌⊛◌, ◌$◌, ◌∵◌, !, qed, by, move, keep, let_go, split, fsplit, fjoin, use0, rewrite, no_more, and_then, returns, enter, alloc_all, pass_all, free_all, look_at, get, sets, agg, fact, fact_i, tables, no, RattleType, owns, types_at, plain, u64, unit, param, bounded, nothing, heard, Tuple, alive, Stays, stay_dropped, walk_of, Goes-dropped, proved, token, Token, token_made, token_told, ends}
use Rattle.logbook.specs.contracts.tokens.Gained as Gained
use Rattle.lasso_log.specs.LentBuckets.{LentBucket, IsRightTo, bytes_gained}
use Rattle.lasso_log.specs.contracts.shared_memory.rights.Free as Free
use Rattle.lasso_log.specs.contracts.chunks.rule.BytesTaken as BytesTaken
use Rattle.lasso_log.specs.contracts.chunks.rule.BytesTakenGainU64.TheImpl as gain
use Rattle.lasso_log.specs.contracts.chunks.taking.right_taken.{ended, clauses}
use Rattle.lasso_log.specs.contracts.chunks.taking.right_taken.Key.{name as #self}
use Rattle.lasso_log.proofs.chunks.taking.right_taken.Statement.{statement}
use Rattle.lasso_log.proofs.chunks.taking.right_taken.Code as code

pub right_taken_spec : {M : Type 1} → statement M
right_taken_spec 𝓤 𝓛 𝓜 𝓡 wired E B _ _ gb db _ =
    let H = 𝓛.H in let 𝓣 = tables 𝓤 H 𝓜 𝓡 𝓡.env in let E' : RattleType = param 0 E in let B' : RattleType = param 1 B in
    let En = ended E B gb db in let c = clauses E B gb db 𝓛 𝓜.mem 𝓡.returns in
    let inst = bounded (a_type ∷ a_type ∷ []) (E, (B, tt)) (dcons db dnil) in let fn = inst_fn inst code.function in
    let Y : RattleType = BytesTaken.the_row B' in let All : RattleType = Tuple (E' ∷ u64 ∷ Y ∷ []) in let U : RattleType = Gained.the_row E' u64 Y (gain.ghosts E' B' gb gain.no_dict) in
    let hs : Stays En.signature.params En.kept = (stay_dropped (plain (λ _. U)) no, tt) in
    proved 𝓛 En hs c 𝓜 𝓡 (Goes-dropped 𝓛 2 (plain (λ _. U)) no (λ κs x f. refl), tt) (#self inst) fn (code.unfolded 𝓤 H 𝓜 𝓡 wired (E, (B, tt)) db)
    (λ κs. ((λ x. token ∷ []), tt)) (λ κs. ((λ x vs is. token_told All vs is.0), tt)) (λ κs qs bounds a gh are.
    let me = a.0 in let y : (walk_of 𝓛 En hs c).Ghost = ((κs, qs, bounds, a, (token ∷ [], tt)), gh) in let Post : Val → SProp 𝓤 = (walk_of 𝓛 En hs c).post y in
    let OfOne : Type 0 = (e : E'.Denot) × (me.about ≡ e ∷ []) in
    qed 𝓛 ((raw (alive 𝓛 En.signature κs qs) ⊛ ‵ (owns (types_at En.signature.params κs) a y.0.4)) ∷ raw (fact 𝓤 _) ∷ raw (fact 𝓤 _) ∷ raw (fact 𝓤 OfOne) ∷ []) ∵
    keep ! (3 ∷ 0 ∷ []) $ heard ! OfOne (λ one. split ! $ move ! (1 ∷ []) $ fsplit ! $ fsplit ! $ let_go ! $ keep ! (0 ∷ 2 ∷ []) $
    let note : E'.Denot = one.0 in let b : LentBucket = gb.bucket note in
    let right : (Free.the_row).Denot = record { marker = record {}; era = b.site.era; block = b.site.block; start = b.site.start + b.used; len = gb.bytes note } in
    rewrite ! 0 (λ (es : List E'.Denot). ‵ (bytes_gained gb.bucket gb.bytes es)) one.1 refl $
    -- [the right; the tokens]
    enter ! 𝓣.C 𝓣.Λ fn (token ∷ []) Post $ alloc_all ! (λ l. pass_all ! refl ((tt, (tt, tt)), tt) $
    use0 𝓛 (‵ ((Token unit).own_val (record {}, tt) (token ∷ []))) (token_made unit 𝓛) $ fjoin ! $ sets ! (agg ! (no_more !)) refl (tt, tt) $ sets ! (agg ! (and_then ! (get ! refl) (no_more !))) refl (tt, (tt, tt)) $
    nothing ! $ nothing ! $ fjoin ! $
    returns ! (look_at ! 0 refl) $ free_all ! refl $ keep ! (2 ∷ 0 ∷ 1 ∷ []) $
    by ! (ends 𝓛 En hs c y token right (tt, tt) (tt, tt)
    (fact_i 𝓤 _ (emp 𝓤) (λ e is. let same : note ≡ e = cc (one.1, is) in subst (λ (f : E'.Denot). IsRightTo right (gb.bucket f) (gb.bytes f)) same (record { era = refl; block = refl; start = refl; len = refl })))))))
