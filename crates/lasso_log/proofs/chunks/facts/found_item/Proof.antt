-- `found_item` opens the book, which keeps what shows that the cell is filled, and with what.
--
-- The book keeps two lasting facts for the text of the position: that its chunk is written with some chunk, and
-- that the cell at the offset in that chunk is written with something that means the text. The caller shows
-- that the chunk is written with the chunk that it knows. A cell is written once, so the two chunks are one, and
-- the cell is the one that the caller will read. The code hands back the token that it was given, as all
-- tokens are alike, and the `Seen` is closed as it was.
use Rattle.lasso_log.proofs.WalkWords.{◌≡◌, ◌<◌, ℕ, List, [], ◌∷◌, length, slice_index_or, refl, w64, a_type, dcons, dnil, named, inst_fn, Val, vint, vptr, SProp, Fml, ftrue, fsep, flft, ‵, raw, ◌⊛◌, later, ◌$◌, ◌∵◌, !, qed, by, move, keep, let_go, split, fsplit, fsplit3, fjoin, fjoin3, fpick, use1, use2, await, rewrite, feq_i, of_opd, returns, enter, alloc_all, pass_all, free_all, look_at, get, sets, fact, says_four, tables, yes, no, RattleType, owns, types_at, plain, RefOf, u64, mut_vals, mut_Tells, shr_vals, shr_Tells, uint_vals, uint_Tells, param, bounded, unhide, nothing, opens, closes, heard, Stays, stay_dropped, stay_ref, walk_of, Goes-dropped, Goes-ref, proved, token, token_told, ends}
use Rattle.logbook.specs.contracts.tokens.Seen as Seen
use Rattle.boxcar.specs.Slot.{written}
use Rattle.boxcar.specs.contracts.slot.Written as Written
use Rattle.boxcar.proofs.Made.{written_made}
use Rattle.boxcar.proofs.Steps.{one_written}
use Rattle.lasso_parts.specs.Texts.{Text}
use Rattle.lasso_log.specs.Chunks.{era_named, chunk_named, offset_of, name_at, holds_text, ListOnlyGrows}
use Rattle.lasso_log.specs.contracts.chunks.rule.InChunks as InChunks
use Rattle.lasso_log.specs.contracts.chunks.rule.InChunksRuleU64.TheImpl as law
use Rattle.lasso_log.proofs.Lined.{SeesLog, Known, finds}
use Rattle.lasso_log.specs.contracts.chunks.facts.found_item.{ended, clauses}
use Rattle.lasso_log.specs.contracts.chunks.facts.found_item.Key.{name as #self}
use Rattle.lasso_log.proofs.chunks.facts.found_item.Statement.{statement}
use Rattle.lasso_log.proofs.chunks.facts.found_item.Code as code

pub found_item_spec : {M : Type 1} → statement M
found_item_spec 𝓤 𝓛 𝓜 𝓡 wired E B T V _ _ _ _ gb db gt dt gv dv _ _ _ =
    let H = 𝓛.H in let 𝓣 = tables 𝓤 H 𝓜 𝓡 𝓡.env in let E' : RattleType = param 0 E in let B' : RattleType = param 1 B in let T' : RattleType = param 2 T in let V' : RattleType = param 3 V in
    let En = ended E B T V gb db gt dt gv dv in let c = clauses E B T V gb db gt dt gv dv 𝓛 𝓜.mem 𝓡.returns in
    let inst = bounded (a_type ∷ a_type ∷ a_type ∷ a_type ∷ []) (E, (B, (T, (V, tt)))) (dcons db (dcons dt (dcons dv dnil))) in let fn = inst_fn inst code.function in
    let G = law.ghosts E' B' T' V' gb law.no_dict gt law.no_dict gv law.no_dict in let S : RattleType = Seen.the_row E' u64 (InChunks.the_row B' T' V') G in let W : RattleType = Written.the_row T' in let Z : RattleType = Written.the_row V' in
    let hs : Stays En.signature.params En.kept = (stay_ref (0 ∷ []) tt (plain (λ _. S)), (stay_dropped (RefOf (1 ∷ []) tt (plain (λ _. Z)) (λ _. tt)) yes, (stay_dropped (plain (λ _. u64)) yes, (stay_dropped (plain (λ _. W)) no, tt)))) in
    proved 𝓛 En hs c 𝓜 𝓡 (Goes-ref 𝓛 6 0 tt (plain (λ _. S)), (Goes-dropped 𝓛 6 (RefOf (1 ∷ []) tt (plain (λ _. Z)) (λ _. tt)) yes (λ κs x f. refl), (Goes-dropped 𝓛 6 (plain (λ _. u64)) yes (λ κs x f. refl), (Goes-dropped 𝓛 6 (plain (λ _. W)) no (λ κs x f. refl), tt)))) (#self inst) fn (code.unfolded 𝓤 H 𝓜 𝓡 wired (E, (B, (T, (V, tt)))) db dt dv)
    (λ κs. (mut_vals, (shr_vals, (uint_vals w64, ((λ x. token ∷ []), tt))))) (λ κs. (mut_Tells (named 0) κs.0 S, (shr_Tells (named 1) κs.1.0 Z, (uint_Tells w64, ((λ x vs is. token_told T' vs is.0), tt))))) (λ κs qs bounds a gh are.
    let me = a.0.now in let z = a.1.0.now in let n : ℕ = a.1.1.0 in let b = a.0.ref_ptr.0 in let o = a.0.ref_ptr.1 in let p : Val = vptr a.1.0.ref_ptr.0 a.1.0.ref_ptr.1 in let cv = E'.coded in
    let g : ℕ = chunk_named me.names n in let γ : ℕ = name_at (gv.cells z.value) (offset_of n) in let text : Text = slice_index_or (gb.texts (gb.shows me.log)) n [] in
    let Sees' : Fml = SeesLog 𝓛 V' T' gv.cells gt.meaning gt.lasts gb.texts gb.buckets cv gb.holds gb.shows me.book me.names me.log in
    let Known' : Fml = Known 𝓛 V' T' gv.cells gt.meaning gt.lasts gb.texts gb.buckets cv gb.holds gb.shows me.book me.names me.log n in
    let toks : Fml = fsep (flft κs.0 qs.0) (fsep (flft κs.1.0 qs.1.0) (fsep (flft κs.1.1.0 qs.1.1.0) (fsep (flft κs.1.1.1.0 qs.1.1.1.0) (fsep (flft κs.1.1.1.1.0 qs.1.1.1.1.0) (fsep (flft κs.1.1.1.1.1.0 qs.1.1.1.1.1.0) ftrue))))) in
    let y : (walk_of 𝓛 En hs c).Ghost = ((κs, qs, bounds, a, (vptr b o ∷ [], (p ∷ [], (vint w64 n ∷ [], (token ∷ [], tt))))), gh) in let Post : Val → SProp 𝓤 = (walk_of 𝓛 En hs c).post y in
    qed 𝓛 ((‵ toks ⊛ ‵ (owns (types_at En.signature.params κs) a y.0.4)) ∷ raw (fact 𝓤 _) ∷ raw (fact 𝓤 _) ∷ raw (fact 𝓤 _) ∷ raw (fact 𝓤 _)
    ∷ raw (fact 𝓤 (ListOnlyGrows gb.shows gb.texts)) ∷ raw (fact 𝓤 (n < length (gb.texts (gb.shows me.log)))) ∷ raw (fact 𝓤 (z.of ≡ g)) ∷ []) ∵
    keep ! (5 ∷ 6 ∷ 7 ∷ 0 ∷ []) $ heard ! _ (λ grows. heard ! _ (λ low. heard ! _ (λ of_row. split ! $
    fsplit ! $ move ! (2 ∷ []) $ fsplit ! $ fsplit3 ! $ move ! (3 ∷ []) $ fsplit ! $ fsplit ! $ keep ! (1 ∷ 4 ∷ 5 ∷ 6 ∷ 7 ∷ []) $ unhide ! $ fsplit ! $ let_go ! $
    enter ! 𝓣.C 𝓣.Λ fn (vptr b o ∷ p ∷ vint w64 n ∷ token ∷ []) Post $ alloc_all ! (λ l. pass_all ! refl ((tt, tt), ((tt, tt), ((tt, record { fits = are.1.1.0.1 }), ((tt, (tt, tt)), tt)))) $
    move ! (1 ∷ 2 ∷ 3 ∷ []) $ opens ! tt S b o (λ ts. move ! (1 ∷ []) $ fsplit ! $ move ! (1 ∷ []) $
    use1 𝓛 (later (‵ Sees' ⊛ ‵ Known')) (finds 𝓛 V' T' gv.cells gt.meaning gt.lasts gb.texts gb.buckets cv gb.holds gb.shows me.book me.names grows me.log n low) $ await ! tt $ split ! $
    move ! (1 ∷ []) $ fpick ! (λ v. fsplit ! $ move ! (0 ∷ 8 ∷ []) $ rewrite ! 1 (λ (k : ℕ). ‵ (written V' k z.value)) of_row refl $ use2 𝓛 (raw (fact 𝓤 (v ≡ z.value))) (one_written 𝓛 V' g v z.value) $ heard ! _ (λ same.
    rewrite ! 0 (λ (u : V'.Denot). ‵ (holds_text V' T' gv.cells gt.meaning gt.lasts (era_named me.names) (name_at (gv.cells u) (offset_of n)) text)) same refl $
    fpick ! (λ x. fsplit ! $ move ! (1 ∷ []) $ fpick ! (λ means. let_go ! $ let r : W.Denot = record { marker = record {}; of = γ; value = x } in
    move ! (2 ∷ 1 ∷ []) $ fjoin ! $ move ! (2 ∷ 0 ∷ 3 ∷ 4 ∷ 5 ∷ []) $ closes ! tt S me ts b o $
    feq_i ! (List Val) (vptr b o ∷ []) (vptr b o ∷ []) refl $ fjoin3 ! $ nothing ! $ nothing ! $ fjoin ! $ nothing ! $ fjoin ! $ nothing ! $ fjoin ! $ move ! (1 ∷ 0 ∷ []) $ fjoin ! $
    move ! (1 ∷ 3 ∷ []) $ fjoin ! $ move ! (2 ∷ []) $ use1 𝓛 (‵ (W.own_val r (token ∷ []))) (written_made 𝓛 T' γ x) $
    sets ! (of_opd ! (get ! refl)) refl (tt, (tt, tt)) $
    returns ! (look_at ! 0 refl) $ free_all ! refl $ keep ! (1 ∷ 2 ∷ 0 ∷ []) $ by ! (ends 𝓛 En hs c y token r (me, (tt, (tt, (tt, tt)))) (tt, (tt, (tt, (tt, tt)))) (says_four 𝓛 _ _ _ _ refl means.0 means.1 refl))))))))))))
