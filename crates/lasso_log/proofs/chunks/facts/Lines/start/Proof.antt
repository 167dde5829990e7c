-- `start` hands on what the lines own, the facts of each text, and the right that is handed in. They are just what the book keeps,
-- since the list that is seen at the opening is these texts, and its one bucket is the one that the right is to.
use Rattle.lasso_log.proofs.WalkWords.{◌≡◌, ◌+◌, ℕ, List, [], ◌∷◌, refl, sym, a_type, dcons, dnil, named, inst_fn, Val, vptr, SProp, ‵, raw, ◌⊛◌, ◌$◌, ◌∵◌, !, qed, by, move, keep, let_go, split, fsplit, fjoin, use0, rewrite, no_more, and_then, returns, enter, alloc_all, pass_all, free_all, look_at, get, sets, agg, fact, says_two, tables, yes, no, RattleType, owns, types_at, plain, RefOf, u64, unit, shr_vals, shr_Tells, param, bounded, nothing, heard, Tuple, alive, Stays, stay_dropped, walk_of, Goes-dropped, proved, token, Token, token_made, token_told, ends}
use Prim.Native.Nat.{◌-◌}
use Rattle.lasso_parts.specs.Texts.{Text}
use Rattle.lasso_log.specs.Chunks.{lined}
use Rattle.lasso_log.specs.Eras.{free}
use Rattle.lasso_log.specs.LentBuckets.{LentBucket, IsRightTo, all_untaken}
use Rattle.lasso_log.proofs.Lined.{kept_keyless}
use Rattle.lasso_log.specs.contracts.shared_memory.rights.Free as Free
use Rattle.lasso_log.specs.contracts.chunks.rule.InChunks as InChunks
use Rattle.lasso_log.specs.contracts.chunks.facts.Lines as Lines
use Rattle.lasso_log.specs.contracts.chunks.facts.Lines.start.{ended, clauses}
use Rattle.lasso_log.specs.contracts.chunks.facts.Lines.start.Key.{name as #self}
use Rattle.lasso_log.proofs.chunks.facts.Lines.start.Statement.{statement}
use Rattle.lasso_log.proofs.chunks.facts.Lines.start.Code as code

pub start_spec : {M : Type 1} → statement M
start_spec 𝓤 𝓛 𝓜 𝓡 wired T V E B X N _ _ _ _ _ _ gt dt gv dv gb db gn dn _ _ _ _ =
    let H = 𝓛.H in let 𝓣 = tables 𝓤 H 𝓜 𝓡 𝓡.env in let T' : RattleType = param 0 T in let V' : RattleType = param 1 V in let E' : RattleType = param 2 E in let B' : RattleType = param 3 B in let X' : RattleType = param 4 X in
    let En = ended T V E B X N gt dt gv dv gb db gn dn in let c = clauses T V E B X N gt dt gv dv gb db gn dn 𝓛 𝓜.mem 𝓡.returns in
    let inst = bounded (a_type ∷ a_type ∷ a_type ∷ a_type ∷ a_type ∷ a_type ∷ []) (T, (V, (E, (B, (X, (N, tt)))))) (dcons dt (dcons dv (dcons db (dcons dn dnil)))) in let fn = inst_fn inst code.function in
    let Y : RattleType = Lines.the_row T' V' gt gv in let F : RattleType = Free.the_row in let All : RattleType = Tuple (E' ∷ u64 ∷ InChunks.the_row B' T' V' ∷ []) in
    let hs : Stays En.signature.params En.kept = (stay_dropped (plain (λ _. Y)) no, (stay_dropped (RefOf (0 ∷ []) tt (plain (λ _. X')) (λ _. tt)) yes, (stay_dropped (plain (λ _. F)) yes, tt))) in
    proved 𝓛 En hs c 𝓜 𝓡 (Goes-dropped 𝓛 7 (plain (λ _. Y)) no (λ κs x f. refl), (Goes-dropped 𝓛 7 (RefOf (0 ∷ []) tt (plain (λ _. X')) (λ _. tt)) yes (λ κs x f. refl), (Goes-dropped 𝓛 7 (plain (λ _. F)) yes (λ κs x f. refl), tt)))
    (#self inst) fn (code.unfolded 𝓤 H 𝓜 𝓡 wired (T, (V, (E, (B, (X, (N, tt)))))) dt dv db dn)
    (λ κs. ((λ x. token ∷ []), (shr_vals, ((λ x. token ∷ []), tt)))) (λ κs. ((λ x vs is. token_told (Tuple (T' ∷ V' ∷ [])) vs is.0), (shr_Tells (named 0) κs.0 X', ((λ x vs is. token_told unit vs is.0), tt)))) (λ κs qs bounds a gh are.
    let lines = a.0 in let shown : List E'.Denot = gn.shown a.1.0.now in let right = a.1.1.0 in let p : Val = vptr a.1.0.ref_ptr.0 a.1.0.ref_ptr.1 in
    let Right : Type 0 = (b : LentBucket) × (gb.buckets shown ≡ b ∷ []) × IsRightTo right b (b.size - b.used) in
    let y : (walk_of 𝓛 En hs c).Ghost = ((κs, qs, bounds, a, (token ∷ [], (p ∷ [], (token ∷ [], tt)))), gh) in let Post : Val → SProp 𝓤 = (walk_of 𝓛 En hs c).post y in
    qed 𝓛 ((raw (alive 𝓛 En.signature κs qs) ⊛ ‵ (owns (types_at En.signature.params κs) a y.0.4)) ∷ raw (fact 𝓤 _) ∷ raw (fact 𝓤 _) ∷ raw (fact 𝓤 _) ∷ raw (fact 𝓤 _) ∷ raw (fact 𝓤 _) ∷ raw (fact 𝓤 _)
    ∷ raw (fact 𝓤 (gb.texts shown ≡ lines.texts)) ∷ raw (fact 𝓤 Right) ∷ []) ∵
    keep ! (7 ∷ 8 ∷ 0 ∷ []) $ heard ! (gb.texts shown ≡ lines.texts) (λ same. heard ! Right (λ has. let b : LentBucket = has.0 in let is = has.2 in let from : ℕ = b.site.start + b.used in split ! $
    move ! (1 ∷ []) $ fsplit ! $ fsplit ! $ move ! (2 ∷ []) $ fsplit ! $ let_go ! $ fsplit ! $ fsplit ! $ keep ! (1 ∷ 4 ∷ 5 ∷ []) $
    -- [the right; the lines; the tokens]
    rewrite ! 0 (λ (k : ℕ). ‵ (free k right.block right.start right.len)) is.era refl $ rewrite ! 0 (λ (k : ℕ). ‵ (free b.site.era k right.start right.len)) is.block refl $
    rewrite ! 0 (λ (k : ℕ). ‵ (free b.site.era b.site.block k right.len)) is.start refl $ rewrite ! 0 (λ (k : ℕ). ‵ (free b.site.era b.site.block from k)) is.len refl $
    nothing ! $ move ! (1 ∷ 0 ∷ []) $ fjoin ! $ rewrite ! 0 (λ (bs : List LentBucket). ‵ (all_untaken bs)) (sym has.1) refl $
    move ! (1 ∷ 0 ∷ []) $ rewrite ! 0 (λ (ts : List Text). ‵ (lined V' T' gv.cells gt.meaning gt.lasts lines.names 0 ts)) (sym same) refl $ fjoin ! $
    enter ! 𝓣.C 𝓣.Λ fn (token ∷ p ∷ token ∷ []) Post $ alloc_all ! (λ l. pass_all ! refl ((tt, (tt, tt)), ((tt, tt), ((tt, (tt, tt)), tt))) $
    use0 𝓛 (‵ ((Token All).own_val (record {}, tt) (token ∷ []))) (token_made All 𝓛) $ fjoin ! $ sets ! (agg ! (no_more !)) refl (tt, tt) $ sets ! (agg ! (and_then ! (get ! refl) (no_more !))) refl (tt, (tt, tt)) $
    nothing ! $ nothing ! $ fjoin ! $ nothing ! $ fjoin ! $ nothing ! $ fjoin ! $
    returns ! (look_at ! 0 refl) $ free_all ! refl $ keep ! (2 ∷ 0 ∷ 1 ∷ []) $
    by ! (ends 𝓛 En hs c y token (record { marker = record {}; names = lines.names; shown = shown }) (tt, (tt, (tt, tt))) (tt, (tt, (tt, tt))) (says_two 𝓛 _ _ (refl, refl) (λ shown'. kept_keyless V' T' gv.cells gt.meaning gt.lasts lines.names (gb.texts shown') (gb.buckets shown'))))))))
