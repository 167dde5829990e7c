-- `found_chunk` opens the book, which keeps what shows that the chunk is made.
--
-- The code hands the token back that it was given: one token is like another, since none has bytes. What the
-- token says comes from the `Seen`: its list is a beginning of the book's list at this moment, and the book
-- keeps two lasting facts for each text of that. The first of them names the chunk of the position. The
-- `Seen` is closed as it was.
use Rattle.lasso_log.proofs.WalkWords.{◌<◌, ℕ, List, [], ◌∷◌, length, refl, w64, a_type, dcons, dnil, named, inst_fn, Val, vint, vptr, SProp, Fml, ftrue, fsep, flft, ‵, raw, ◌⊛◌, later, ◌$◌, ◌∵◌, !, qed, by, move, keep, let_go, split, fsplit, fsplit3, fjoin, fjoin3, fpick, use1, await, feq_i, of_opd, returns, enter, alloc_all, pass_all, free_all, look_at, get, sets, fact, says_two, tables, yes, no, RattleType, owns, types_at, plain, u64, mut_vals, mut_Tells, uint_vals, uint_Tells, param, bounded, nothing, opens, closes, heard, Stays, stay_dropped, stay_ref, walk_of, Goes-dropped, Goes-ref, proved, token, token_told, ends}
use Rattle.logbook.specs.contracts.tokens.Seen as Seen
use Rattle.boxcar.specs.contracts.slot.Written as Written
use Rattle.boxcar.proofs.Made.{written_made}
use Rattle.lasso_log.specs.Chunks.{chunk_named, ListOnlyGrows}
use Rattle.lasso_log.specs.contracts.chunks.rule.InChunks as InChunks
use Rattle.lasso_log.specs.contracts.chunks.rule.InChunksRuleU64.TheImpl as law
use Rattle.lasso_log.proofs.Lined.{SeesLog, Known, finds}
use Rattle.lasso_log.specs.contracts.chunks.facts.found_chunk.{ended, clauses}
use Rattle.lasso_log.specs.contracts.chunks.facts.found_chunk.Key.{name as #self}
use Rattle.lasso_log.proofs.chunks.facts.found_chunk.Statement.{statement}
use Rattle.lasso_log.proofs.chunks.facts.found_chunk.Code as code

pub found_chunk_spec : {M : Type 1} → statement M
found_chunk_spec 𝓤 𝓛 𝓜 𝓡 wired E B T V _ _ _ _ gb db gt dt gv dv _ _ _ =
    let H = 𝓛.H in let 𝓣 = tables 𝓤 H 𝓜 𝓡 𝓡.env in let E' : RattleType = param 0 E in let B' : RattleType = param 1 B in let T' : RattleType = param 2 T in let V' : RattleType = param 3 V in
    let En = ended E B T V gb db gt dt gv dv in let c = clauses E B T V gb db gt dt gv dv 𝓛 𝓜.mem 𝓡.returns in
    let inst = bounded (a_type ∷ a_type ∷ a_type ∷ a_type ∷ []) (E, (B, (T, (V, tt)))) (dcons db (dcons dt (dcons dv dnil))) in let fn = inst_fn inst code.function in
    let G = law.ghosts E' B' T' V' gb law.no_dict gt law.no_dict gv law.no_dict in let S : RattleType = Seen.the_row E' u64 (InChunks.the_row B' T' V') G in let Z : RattleType = Written.the_row V' in
    let hs : Stays En.signature.params En.kept = (stay_ref (0 ∷ []) tt (plain (λ _. S)), (stay_dropped (plain (λ _. u64)) yes, (stay_dropped (plain (λ _. Z)) no, tt))) in
    proved 𝓛 En hs c 𝓜 𝓡 (Goes-ref 𝓛 5 0 tt (plain (λ _. S)), (Goes-dropped 𝓛 5 (plain (λ _. u64)) yes (λ κs x f. refl), (Goes-dropped 𝓛 5 (plain (λ _. Z)) no (λ κs x f. refl), tt))) (#self inst) fn (code.unfolded 𝓤 H 𝓜 𝓡 wired (E, (B, (T, (V, tt)))) db dt dv)
    (λ κs. (mut_vals, (uint_vals w64, ((λ x. token ∷ []), tt)))) (λ κs. (mut_Tells (named 0) κs.0 S, (uint_Tells w64, ((λ x vs is. token_told V' vs is.0), tt)))) (λ κs qs bounds a gh are.
    let me = a.0.now in let n : ℕ = a.1.0 in let b = a.0.ref_ptr.0 in let o = a.0.ref_ptr.1 in let cv = E'.coded in
    let Sees' : Fml = SeesLog 𝓛 V' T' gv.cells gt.meaning gt.lasts gb.texts gb.buckets cv gb.holds gb.shows me.book me.names me.log in
    let Known' : Fml = Known 𝓛 V' T' gv.cells gt.meaning gt.lasts gb.texts gb.buckets cv gb.holds gb.shows me.book me.names me.log n in
    let toks : Fml = fsep (flft κs.0 qs.0) (fsep (flft κs.1.0 qs.1.0) (fsep (flft κs.1.1.0 qs.1.1.0) (fsep (flft κs.1.1.1.0 qs.1.1.1.0) (fsep (flft κs.1.1.1.1.0 qs.1.1.1.1.0) ftrue)))) in
    let y : (walk_of 𝓛 En hs c).Ghost = ((κs, qs, bounds, a, (vptr b o ∷ [], (vint w64 n ∷ [], (token ∷ [], tt)))), gh) in let Post : Val → SProp 𝓤 = (walk_of 𝓛 En hs c).post y in
    qed 𝓛 ((‵ toks ⊛ ‵ (owns (types_at En.signature.params κs) a y.0.4)) ∷ raw (fact 𝓤 _) ∷ raw (fact 𝓤 _) ∷ raw (fact 𝓤 _) ∷ raw (fact 𝓤 _) ∷ raw (fact 𝓤 (ListOnlyGrows gb.shows gb.texts)) ∷ raw (fact 𝓤 (n < length (gb.texts (gb.shows me.log)))) ∷ []) ∵
    keep ! (5 ∷ 6 ∷ 0 ∷ []) $ heard ! _ (λ grows. heard ! _ (λ low. split ! $
    fsplit ! $ move ! (2 ∷ []) $ fsplit ! $ fsplit3 ! $ keep ! (1 ∷ 2 ∷ 4 ∷ 5 ∷ []) $
    enter ! 𝓣.C 𝓣.Λ fn (vptr b o ∷ vint w64 n ∷ token ∷ []) Post $ alloc_all ! (λ l. pass_all ! refl ((tt, tt), ((tt, record { fits = are.1.0.1 }), ((tt, (tt, tt)), tt))) $
    opens ! tt S b o (λ ts. move ! (1 ∷ []) $ fsplit ! $ move ! (1 ∷ []) $
    use1 𝓛 (later (‵ Sees' ⊛ ‵ Known')) (finds 𝓛 V' T' gv.cells gt.meaning gt.lasts gb.texts gb.buckets cv gb.holds gb.shows me.book me.names grows me.log n low) $ await ! tt $ split ! $
    move ! (1 ∷ []) $ fpick ! (λ v. fsplit ! $ move ! (1 ∷ []) $ let_go ! $ let r : Z.Denot = record { marker = record {}; of = chunk_named me.names n; value = v } in
    move ! (2 ∷ 1 ∷ []) $ fjoin ! $ move ! (2 ∷ 0 ∷ 3 ∷ 4 ∷ 5 ∷ []) $ closes ! tt S me ts b o $
    feq_i ! (List Val) (vptr b o ∷ []) (vptr b o ∷ []) refl $ fjoin3 ! $ nothing ! $ nothing ! $ fjoin ! $ nothing ! $ fjoin ! $ move ! (1 ∷ 0 ∷ []) $ fjoin ! $
    move ! (1 ∷ 3 ∷ []) $ fjoin ! $ move ! (2 ∷ []) $ use1 𝓛 (‵ (Z.own_val r (token ∷ []))) (written_made 𝓛 V' r.of v) $
    sets ! (of_opd ! (get ! refl)) refl (tt, (tt, tt)) $
    returns ! (look_at ! 0 refl) $ free_all ! refl $ keep ! (1 ∷ 2 ∷ 0 ∷ []) $ by ! (ends 𝓛 En hs c y token r (me, (tt, (tt, tt))) (tt, (tt, (tt, tt))) (says_two 𝓛 _ _ refl refl))))))))
