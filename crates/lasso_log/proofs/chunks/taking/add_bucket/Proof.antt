-- `add_bucket` makes an offer of the right to the new bucket's bytes, which the book keeps from then on,
-- after those of the others.
use Rattle.lasso_log.proofs.WalkWords.{◌≡◌, ◌+◌, ℕ, List, [], ◌∷◌, refl, a_type, dcons, dnil, named, inst_fn, Val, vptr, SProp, emp, ‵, raw, ◌⊛◌, ◌$◌, ◌∵◌, !, qed, by, move, keep, let_go, split, fsplit, fjoin, use0, use1, rewrite, no_more, and_then, returns, enter, alloc_all, pass_all, free_all, look_at, get, sets, agg, fact, fact_i, tables, yes, RattleType, owns, types_at, plain, RefOf, u64, unit, shr_vals, shr_Tells, param, bounded, nothing, heard, Tuple, alive, Stays, stay_dropped, walk_of, Goes-dropped, proved, token, Token, token_made, token_told, ends}
use Prim.Native.Nat.{◌-◌}
use Rattle.std.specs.declared.option.Option.TheVariants.{None}
use Rattle.logbook.specs.Kept.{offer_owns}
use Rattle.logbook.specs.contracts.tokens.Seen as Seen
use Rattle.lasso_log.specs.Eras.{free}
use Rattle.lasso_log.specs.LentBuckets.{LentBucket, AddsBucket, IsRightTo}
use Rattle.lasso_log.specs.contracts.shared_memory.rights.Free as Free
use Rattle.lasso_log.specs.contracts.chunks.rule.InChunks as InChunks
use Rattle.lasso_log.specs.contracts.chunks.rule.BytesTaken as BytesTaken
use Rattle.lasso_log.specs.contracts.chunks.rule.InChunksRuleU64.TheImpl as law
use Rattle.lasso_log.specs.contracts.chunks.rule.BytesTakenGainU64.TheImpl as gain
use Rattle.lasso_log.proofs.Lined.{offered_bucket}
use Rattle.lasso_log.specs.contracts.chunks.taking.add_bucket.{ended, clauses}
use Rattle.lasso_log.specs.contracts.chunks.taking.add_bucket.Key.{name as #self}
use Rattle.lasso_log.proofs.chunks.taking.add_bucket.Statement.{statement}
use Rattle.lasso_log.proofs.chunks.taking.add_bucket.Code as code

pub add_bucket_spec : {M : Type 1} → statement M
add_bucket_spec 𝓤 𝓛 𝓜 𝓡 wired E B T V X N _ _ _ _ _ _ gb db gt dt gv dv gn dn _ _ _ _ =
    let H = 𝓛.H in let 𝓣 = tables 𝓤 H 𝓜 𝓡 𝓡.env in let E' : RattleType = param 0 E in let B' : RattleType = param 1 B in let T' : RattleType = param 2 T in let V' : RattleType = param 3 V in let X' : RattleType = param 4 X in
    let En = ended E B T V X N gb db gt dt gv dv gn dn in let c = clauses E B T V X N gb db gt dt gv dv gn dn 𝓛 𝓜.mem 𝓡.returns in
    let inst = bounded (a_type ∷ a_type ∷ a_type ∷ a_type ∷ a_type ∷ a_type ∷ []) (E, (B, (T, (V, (X, (N, tt)))))) (dcons db (dcons dt (dcons dv (dcons dn dnil)))) in let fn = inst_fn inst code.function in
    let G = law.ghosts E' B' T' V' gb law.no_dict gt law.no_dict gv law.no_dict in let K = gain.ghosts E' B' gb gain.no_dict in let L : RattleType = InChunks.the_row B' T' V' in let S : RattleType = Seen.the_row E' u64 L G in
    let F : RattleType = Free.the_row in let All : RattleType = Tuple (E' ∷ u64 ∷ L ∷ BytesTaken.the_row B' ∷ []) in
    let hs : Stays En.signature.params En.kept = (stay_dropped (RefOf (0 ∷ []) tt (plain (λ _. S)) (λ _. tt)) yes, (stay_dropped (RefOf (1 ∷ []) tt (plain (λ _. X')) (λ _. tt)) yes, (stay_dropped (plain (λ _. F)) yes, tt))) in
    proved 𝓛 En hs c 𝓜 𝓡 (Goes-dropped 𝓛 8 (RefOf (0 ∷ []) tt (plain (λ _. S)) (λ _. tt)) yes (λ κs x f. refl), (Goes-dropped 𝓛 8 (RefOf (1 ∷ []) tt (plain (λ _. X')) (λ _. tt)) yes (λ κs x f. refl), (Goes-dropped 𝓛 8 (plain (λ _. F)) yes (λ κs x f. refl), tt)))
    (#self inst) fn (code.unfolded 𝓤 H 𝓜 𝓡 wired (E, (B, (T, (V, (X, (N, tt)))))) db dt dv dn)
    (λ κs. (shr_vals, (shr_vals, ((λ x. token ∷ []), tt)))) (λ κs. (shr_Tells (named 0) κs.0 S, (shr_Tells (named 1) κs.1.0 X', ((λ x vs is. token_told unit vs is.0), tt)))) (λ κs qs bounds a gh are.
    let me = a.0.now in let ask : E'.Denot = gn.ask a.1.0.now in let right = a.1.1.0 in let b : LentBucket = gb.bucket ask in let from : ℕ = b.site.start + b.used in
    let p : Val = vptr a.0.ref_ptr.0 a.0.ref_ptr.1 in let p' : Val = vptr a.1.0.ref_ptr.0 a.1.0.ref_ptr.1 in
    let y : (walk_of 𝓛 En hs c).Ghost = ((κs, qs, bounds, a, (p ∷ [], (p' ∷ [], (token ∷ [], tt)))), gh) in let Post : Val → SProp 𝓤 = (walk_of 𝓛 En hs c).post y in
    let Right : Type 0 = IsRightTo right b (b.size - b.used) in let Adds : Type 0 = (before after : List E'.Denot) → gb.moves ask before after → (gb.texts after ≡ gb.texts before) × AddsBucket gb.buckets b before after in
    qed 𝓛 ((raw (alive 𝓛 En.signature κs qs) ⊛ ‵ (owns (types_at En.signature.params κs) a y.0.4)) ∷ raw (fact 𝓤 _) ∷ raw (fact 𝓤 _) ∷ raw (fact 𝓤 _) ∷ raw (fact 𝓤 _) ∷ raw (fact 𝓤 _) ∷ raw (fact 𝓤 _) ∷ raw (fact 𝓤 Right) ∷ raw (fact 𝓤 Adds) ∷ []) ∵
    keep ! (7 ∷ 8 ∷ 0 ∷ []) $ heard ! Right (λ is. heard ! Adds (λ adds. split ! $
    move ! (1 ∷ []) $ fsplit ! $ let_go ! $ fsplit ! $ let_go ! $ fsplit ! $ fsplit ! $ let_go ! $ keep ! (0 ∷ 2 ∷ []) $
    -- [the right; the tokens]
    rewrite ! 0 (λ (k : ℕ). ‵ (free k right.block right.start right.len)) is.era refl $ rewrite ! 0 (λ (k : ℕ). ‵ (free b.site.era k right.start right.len)) is.block refl $
    rewrite ! 0 (λ (k : ℕ). ‵ (free b.site.era b.site.block k right.len)) is.start refl $ rewrite ! 0 (λ (k : ℕ). ‵ (free b.site.era b.site.block from k)) is.len refl $
    use1 𝓛 (‵ (offer_owns (G.keeps me.names) (G.moves ask) (K.after me.names []) None)) (offered_bucket 𝓛 V' T' gv.cells gt.meaning gt.lasts gb.texts gb.buckets (G.moves ask) me.names b (λ before after answer moved. adds before after moved)) $
    enter ! 𝓣.C 𝓣.Λ fn (p ∷ p' ∷ token ∷ []) Post $ alloc_all ! (λ l. pass_all ! refl ((tt, tt), ((tt, tt), ((tt, (tt, tt)), tt))) $
    use0 𝓛 (‵ ((Token All).own_val (record {}, tt) (token ∷ []))) (token_made All 𝓛) $ fjoin ! $ sets ! (agg ! (no_more !)) refl (tt, tt) $ sets ! (agg ! (and_then ! (get ! refl) (no_more !))) refl (tt, (tt, tt)) $
    nothing ! $ nothing ! $ fjoin ! $ nothing ! $ fjoin ! $ nothing ! $ fjoin ! $
    returns ! (look_at ! 0 refl) $ free_all ! refl $ keep ! (2 ∷ 0 ∷ 1 ∷ []) $
    by ! (ends 𝓛 En hs c y token (record { marker = record {}; names = me.names; ask = ask; about = []; state = None }) (tt, (tt, (tt, tt))) (tt, (tt, (tt, tt))) (fact_i 𝓤 _ (emp 𝓤) (refl, refl, refl, refl)))))))
