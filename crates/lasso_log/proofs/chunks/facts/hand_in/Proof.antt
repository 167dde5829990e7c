-- `hand_in` makes an offer of two lasting facts: that the chunk of a position is written, and its cell.
--
-- An offer owes this: whatever list of texts the book keeps when the update runs, with the update's text put
-- last at its position, the facts of the longer list are had of those of the shorter one. The two facts are
-- those of the new position, so they are at the end. They need no step of the machine, and the offer has no
-- bytes.
use Rattle.lasso_log.proofs.WalkWords.{◌≡◌, [], ◌∷◌, refl, a_type, dcons, dnil, named, inst_fn, Val, vptr, SProp, emp, ‵, raw, ◌⊛◌, ◌$◌, ◌∵◌, !, qed, by, move, keep, let_go, split, fsplit, fjoin, use0, use2, no_more, and_then, returns, enter, alloc_all, pass_all, free_all, look_at, get, sets, agg, fact, fact_i, tables, yes, RattleType, owns, types_at, plain, RefOf, u64, shr_vals, shr_Tells, param, bounded, unhide, nothing, heard, Tuple, alive, Stays, stay_dropped, walk_of, Goes-dropped, proved, token, Token, token_made, ends}
use Rattle.std.specs.declared.option.Option.TheVariants.{None}
use Rattle.logbook.specs.Kept.{offer_owns}
use Rattle.logbook.specs.contracts.tokens.Seen as Seen
use Rattle.logbook.specs.contracts.tokens.Offer as Offer
use Rattle.boxcar.specs.contracts.slot.Written as Written
use Rattle.std.proofs.Common.{List}
use Rattle.lasso_log.specs.Chunks.{IsCellAt, PutsLastAt, era_named}
use Rattle.lasso_log.specs.contracts.chunks.rule.InChunks as InChunks
use Rattle.lasso_log.specs.contracts.chunks.rule.NoGain as NoGain
use Rattle.lasso_log.specs.contracts.chunks.rule.InChunksRuleU64.TheImpl as law
use Rattle.lasso_log.specs.contracts.chunks.rule.NoGainGainU64.TheImpl as no_gain
use Rattle.lasso_log.proofs.Lined.{offered}
use Rattle.lasso_log.specs.contracts.chunks.facts.hand_in.{ended, clauses}
use Rattle.lasso_log.specs.contracts.chunks.facts.hand_in.Key.{name as #self}
use Rattle.lasso_log.proofs.chunks.facts.hand_in.Statement.{statement}
use Rattle.lasso_log.proofs.chunks.facts.hand_in.Code as code

pub hand_in_spec : {M : Type 1} → statement M
hand_in_spec 𝓤 𝓛 𝓜 𝓡 wired E B T V X N _ _ _ _ _ _ gb db gt dt gv dv gn dn _ _ _ _ =
    let H = 𝓛.H in let 𝓣 = tables 𝓤 H 𝓜 𝓡 𝓡.env in let E' : RattleType = param 0 E in let B' : RattleType = param 1 B in let T' : RattleType = param 2 T in let V' : RattleType = param 3 V in let X' : RattleType = param 4 X in
    let En = ended E B T V X N gb db gt dt gv dv gn dn in let c = clauses E B T V X N gb db gt dt gv dv gn dn 𝓛 𝓜.mem 𝓡.returns in
    let inst = bounded (a_type ∷ a_type ∷ a_type ∷ a_type ∷ a_type ∷ a_type ∷ []) (E, (B, (T, (V, (X, (N, tt)))))) (dcons db (dcons dt (dcons dv (dcons dn dnil)))) in let fn = inst_fn inst code.function in
    let G = law.ghosts E' B' T' V' gb law.no_dict gt law.no_dict gv law.no_dict in let L : RattleType = InChunks.the_row B' T' V' in let S : RattleType = Seen.the_row E' u64 L G in let W : RattleType = Written.the_row T' in let Z : RattleType = Written.the_row V' in
    let All : RattleType = Tuple (E' ∷ u64 ∷ L ∷ NoGain.the_row ∷ []) in let U : RattleType = Offer.the_row E' u64 L NoGain.the_row G (no_gain.ghosts E') in
    let hs : Stays En.signature.params En.kept = (stay_dropped (RefOf (0 ∷ []) tt (plain (λ _. S)) (λ _. tt)) yes, (stay_dropped (RefOf (1 ∷ []) tt (plain (λ _. Z)) (λ _. tt)) yes, (stay_dropped (RefOf (2 ∷ []) tt (plain (λ _. W)) (λ _. tt)) yes, (stay_dropped (RefOf (3 ∷ []) tt (plain (λ _. X')) (λ _. tt)) yes, tt)))) in
    proved 𝓛 En hs c 𝓜 𝓡 (Goes-dropped 𝓛 10 (RefOf (0 ∷ []) tt (plain (λ _. S)) (λ _. tt)) yes (λ κs x f. refl), (Goes-dropped 𝓛 10 (RefOf (1 ∷ []) tt (plain (λ _. Z)) (λ _. tt)) yes (λ κs x f. refl), (Goes-dropped 𝓛 10 (RefOf (2 ∷ []) tt (plain (λ _. W)) (λ _. tt)) yes (λ κs x f. refl), (Goes-dropped 𝓛 10 (RefOf (3 ∷ []) tt (plain (λ _. X')) (λ _. tt)) yes (λ κs x f. refl), tt))))
    (#self inst) fn (code.unfolded 𝓤 H 𝓜 𝓡 wired (E, (B, (T, (V, (X, (N, tt)))))) db dt dv dn)
    (λ κs. (shr_vals, (shr_vals, (shr_vals, (shr_vals, tt))))) (λ κs. (shr_Tells (named 0) κs.0 S, (shr_Tells (named 1) κs.1.0 Z, (shr_Tells (named 2) κs.1.1.0 W, (shr_Tells (named 3) κs.1.1.1.0 X', tt))))) (λ κs qs bounds a gh are.
    let me = a.0.now in let z = a.1.0.now in let w = a.1.1.0.now in let ask : E'.Denot = gn.ask a.1.1.1.0.now in
    let p : Val = vptr a.0.ref_ptr.0 a.0.ref_ptr.1 in let p' : Val = vptr a.1.0.ref_ptr.0 a.1.0.ref_ptr.1 in let p'' : Val = vptr a.1.1.0.ref_ptr.0 a.1.1.0.ref_ptr.1 in let p''' : Val = vptr a.1.1.1.0.ref_ptr.0 a.1.1.1.0.ref_ptr.1 in
    let y : (walk_of 𝓛 En hs c).Ghost = ((κs, qs, bounds, a, (p ∷ [], (p' ∷ [], (p'' ∷ [], (p''' ∷ [], tt))))), gh) in let Post : Val → SProp 𝓤 = (walk_of 𝓛 En hs c).post y in
    let Puts : Type 0 = (before after : List E'.Denot) → gb.moves ask before after → PutsLastAt gb.texts (gb.appended_at ask) (gb.text ask) before after × (gb.buckets after ≡ gb.buckets before) in
    qed 𝓛 ((raw (alive 𝓛 En.signature κs qs) ⊛ ‵ (owns (types_at En.signature.params κs) a y.0.4)) ∷ raw (fact 𝓤 _) ∷ raw (fact 𝓤 _) ∷ raw (fact 𝓤 _) ∷ raw (fact 𝓤 _) ∷ raw (fact 𝓤 _) ∷ raw (fact 𝓤 _)
    ∷ raw (fact 𝓤 (IsCellAt me.names (gb.appended_at ask) z.of (gv.cells z.value) w.of)) ∷ raw (fact 𝓤 (gt.meaning w.value ≡ gb.text ask)) ∷ raw (fact 𝓤 (gt.lasts w.value (era_named me.names))) ∷ raw (fact 𝓤 Puts) ∷ []) ∵
    keep ! (7 ∷ 8 ∷ 9 ∷ 10 ∷ 0 ∷ []) $ heard ! _ (λ at. heard ! _ (λ means. heard ! _ (λ long. heard ! Puts (λ puts. split ! $
    move ! (1 ∷ []) $ fsplit ! $ move ! (1 ∷ []) $ fsplit ! $ fsplit ! $ keep ! (1 ∷ 2 ∷ 4 ∷ []) $ unhide ! $ fsplit ! $ let_go ! $
    move ! (1 ∷ []) $ fsplit ! $ fsplit ! $ keep ! (1 ∷ 3 ∷ 4 ∷ []) $ unhide ! $ fsplit ! $ let_go ! $ move ! (1 ∷ 0 ∷ []) $
    use2 𝓛 (‵ (offer_owns (G.keeps me.names) (G.moves ask) ((no_gain.ghosts E').after me.names []) None)) (offered 𝓛 V' T' gv.cells gt.meaning gt.lasts gb.texts gb.buckets (G.moves ask) me.names (gb.appended_at ask) z.of w.of (gb.text ask) z.value w.value (λ before after answer moved. puts before after moved) at means long) $
    enter ! 𝓣.C 𝓣.Λ fn (p ∷ p' ∷ p'' ∷ p''' ∷ []) Post $ alloc_all ! (λ l. pass_all ! refl ((tt, tt), ((tt, tt), ((tt, tt), ((tt, tt), tt)))) $
    use0 𝓛 (‵ ((Token All).own_val (record {}, tt) (token ∷ []))) (token_made All 𝓛) $ fjoin ! $ sets ! (agg ! (no_more !)) refl (tt, tt) $ sets ! (agg ! (and_then ! (get ! refl) (no_more !))) refl (tt, (tt, tt)) $
    nothing ! $ nothing ! $ fjoin ! $ nothing ! $ fjoin ! $ nothing ! $ fjoin ! $ nothing ! $ fjoin ! $
    returns ! (look_at ! 0 refl) $ free_all ! refl $ keep ! (2 ∷ 0 ∷ 1 ∷ []) $
    by ! (ends 𝓛 En hs c y token (record { marker = record {}; names = me.names; ask = ask; about = []; state = None }) (tt, (tt, (tt, (tt, tt)))) (tt, (tt, (tt, (tt, tt)))) (fact_i 𝓤 _ (emp 𝓤) (refl, refl, refl, refl)))))))))
