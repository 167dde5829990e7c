-- `push` puts two lasting facts at the end of those that the lines own: that the chunk of the next position is
-- written, and its cell. The code does nothing, since none of this has bytes.
use Rattle.lasso_log.proofs.WalkWords.{◌≡◌, ◌+◌, arith, rewrite, ℕ, List, [], ◌∷◌, ◌++◌, length, refl, a_type, dcons, dnil, named, inst_fn, Val, vptr, vunit, SProp, Fml, ftrue, fsep, flft, ‵, raw, ◌⊛◌, ◌$◌, ◌∵◌, !, qed, by, move, keep, let_go, split, fsplit, fsplit3, fjoin, fjoin3, use2, feq_i, of_opd, unit_lit, returns, enter, alloc_all, pass_all, free_all, look_at, sets, fact, says_two, tables, yes, RattleType, owns, types_at, plain, RefOf, mut_vals, mut_Tells, shr_vals, shr_Tells, param, bounded, unhide, nothing, opens, closes, heard, Stays, stay_dropped, stay_ref, walk_of, Goes-dropped, Goes-ref, proved, ends}
use Rattle.boxcar.specs.contracts.slot.Written as Written
use Rattle.lasso_parts.specs.Texts.{Text}
use Rattle.lasso_log.specs.Chunks.{IsCellAt, era_named}
use Rattle.lasso_log.proofs.Lined.{Lined, Filled, grown, fills_position}
use Rattle.lasso_log.specs.contracts.chunks.facts.Lines as Lines
use Rattle.lasso_log.specs.contracts.chunks.facts.Lines.push.{ended, clauses}
use Rattle.lasso_log.specs.contracts.chunks.facts.Lines.push.Key.{name as #self}
use Rattle.lasso_log.proofs.chunks.facts.Lines.push.Statement.{statement}
use Rattle.lasso_log.proofs.chunks.facts.Lines.push.Code as code

pub push_spec : {M : Type 1} → statement M
push_spec 𝓤 𝓛 𝓜 𝓡 wired T V _ _ gt dt gv dv _ _ =
    let H = 𝓛.H in let 𝓣 = tables 𝓤 H 𝓜 𝓡 𝓡.env in let T' : RattleType = param 0 T in let V' : RattleType = param 1 V in
    let En = ended T V gt dt gv dv in let c = clauses T V gt dt gv dv 𝓛 𝓜.mem 𝓡.returns in
    let inst = bounded (a_type ∷ a_type ∷ []) (T, (V, tt)) (dcons dt (dcons dv dnil)) in let fn = inst_fn inst code.function in
    let Y : RattleType = Lines.the_row T' V' gt gv in let W : RattleType = Written.the_row T' in let Z : RattleType = Written.the_row V' in
    let hs : Stays En.signature.params En.kept = (stay_ref (0 ∷ []) tt (plain (λ _. Y)), (stay_dropped (RefOf (1 ∷ []) tt (plain (λ _. Z)) (λ _. tt)) yes, (stay_dropped (RefOf (2 ∷ []) tt (plain (λ _. W)) (λ _. tt)) yes, tt))) in
    proved 𝓛 En hs c 𝓜 𝓡 (Goes-ref 𝓛 5 0 tt (plain (λ _. Y)), (Goes-dropped 𝓛 5 (RefOf (1 ∷ []) tt (plain (λ _. Z)) (λ _. tt)) yes (λ κs x f. refl), (Goes-dropped 𝓛 5 (RefOf (2 ∷ []) tt (plain (λ _. W)) (λ _. tt)) yes (λ κs x f. refl), tt)))
    (#self inst) fn (code.unfolded 𝓤 H 𝓜 𝓡 wired (T, (V, tt)) dt dv)
    (λ κs. (mut_vals, (shr_vals, (shr_vals, tt)))) (λ κs. (mut_Tells (named 0) κs.0 Y, (shr_Tells (named 1) κs.1.0 Z, (shr_Tells (named 2) κs.1.1.0 W, tt)))) (λ κs qs bounds a gh are.
    let me = a.0.now in let z = a.1.0.now in let w = a.1.1.0.now in let n : ℕ = length me.texts in let here : n ≡ 0 + n = omega arith in let text : Text = gt.meaning w.value in
    let b = a.0.ref_ptr.0 in let o = a.0.ref_ptr.1 in let p : Val = vptr a.1.0.ref_ptr.0 a.1.0.ref_ptr.1 in let p' : Val = vptr a.1.1.0.ref_ptr.0 a.1.1.0.ref_ptr.1 in
    let toks : Fml = fsep (flft κs.0 qs.0) (fsep (flft κs.1.0 qs.1.0) (fsep (flft κs.1.1.0 qs.1.1.0) (fsep (flft κs.1.1.1.0 qs.1.1.1.0) (fsep (flft κs.1.1.1.1.0 qs.1.1.1.1.0) ftrue)))) in
    let y : (walk_of 𝓛 En hs c).Ghost = ((κs, qs, bounds, a, (vptr b o ∷ [], (p ∷ [], (p' ∷ [], tt)))), gh) in let Post : Val → SProp 𝓤 = (walk_of 𝓛 En hs c).post y in
    let Put = Lined 𝓛 V' T' gv.cells gt.meaning gt.lasts me.names 0 in let me' : Y.Denot = record me { texts = me.texts ++ text ∷ [] } in
    qed 𝓛 ((‵ toks ⊛ ‵ (owns (types_at En.signature.params κs) a y.0.4)) ∷ raw (fact 𝓤 _) ∷ raw (fact 𝓤 _) ∷ raw (fact 𝓤 (IsCellAt me.names n z.of (gv.cells z.value) w.of)) ∷ raw (fact 𝓤 (gt.lasts w.value (era_named me.names))) ∷ []) ∵
    keep ! (3 ∷ 4 ∷ 0 ∷ []) $ heard ! _ (λ at. heard ! _ (λ long. split ! $
    fsplit ! $ move ! (2 ∷ []) $ fsplit ! $ fsplit3 ! $ move ! (3 ∷ []) $ fsplit ! $ fsplit ! $ move ! (2 ∷ []) $ fsplit ! $ fsplit ! $ keep ! (1 ∷ 4 ∷ 6 ∷ 7 ∷ 8 ∷ 9 ∷ []) $
    unhide ! $ fsplit ! $ let_go ! $ move ! (1 ∷ []) $ unhide ! $ fsplit ! $ let_go ! $
    use2 𝓛 (‵ (Filled 𝓛 V' T' gv.cells gt.meaning gt.lasts me.names n text)) (fills_position 𝓛 V' T' gv.cells gt.meaning gt.lasts me.names n z.of w.of z.value w.value text at refl long) $
    rewrite ! 0 (λ (k : ℕ). ‵ (Filled 𝓛 V' T' gv.cells gt.meaning gt.lasts me.names k text)) here refl $
    -- [the new position; the lines, in two parts; the token of their lifetime; the other tokens]
    enter ! 𝓣.C 𝓣.Λ fn (vptr b o ∷ p ∷ p' ∷ []) Post $ alloc_all ! (λ l. pass_all ! refl ((tt, tt), ((tt, tt), ((tt, tt), tt))) $
    move ! (1 ∷ 2 ∷ 3 ∷ []) $ opens ! tt Y b o (λ ts. move ! (1 ∷ []) $ fsplit ! $ move ! (1 ∷ 6 ∷ []) $
    use2 𝓛 (‵ (Put (me.texts ++ text ∷ []))) (grown 𝓛 V' T' gv.cells gt.meaning gt.lasts me.names 0 me.texts text) $
    move ! (1 ∷ 0 ∷ []) $ fjoin ! $ move ! (1 ∷ 0 ∷ 2 ∷ 3 ∷ 4 ∷ []) $ closes ! tt Y me' ts b o $
    feq_i ! (List Val) (vptr b o ∷ []) (vptr b o ∷ []) refl $ fjoin3 ! $ nothing ! $ nothing ! $ fjoin ! $ nothing ! $ fjoin ! $ move ! (1 ∷ 0 ∷ []) $ fjoin ! $
    move ! (1 ∷ 2 ∷ []) $ fjoin ! $ feq_i ! (List Val) (vunit ∷ []) (vunit ∷ []) refl $
    sets ! (of_opd ! (unit_lit !)) refl (tt, tt) $
    returns ! (look_at ! 0 refl) $ free_all ! refl $ keep ! (1 ∷ 2 ∷ 0 ∷ []) $ by ! (ends 𝓛 En hs c y vunit tt (me', (tt, (tt, tt))) (tt, (tt, (tt, tt))) (says_two 𝓛 _ _ refl refl)))))))
