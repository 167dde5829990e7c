-- `into_inner`: the value is taken, whatever the word is. Assumes `Logic`.
-- A latch that nobody shares owns a word and a value that fits. So its machine value is a struct of a number and of the value's one entry, and that entry
-- is what is returned.
use Rattle.lasso_lock.proofs.Walks.{◌≡◌, List, [], ◌∷◌, ◌++◌, sym, refl, ◌∙◌, subst, w64, and_tt, dcons, dnil, a_type, Val, vint, vstruct, vcons, vnil, of_list, has_ty, inst_fn, SProp, ent, emp, id⊢, ftrue, fsep, WpFn, ‵, raw, ◌⊛◌, ◌$◌, ◌∵◌, !, qed, by, move, keep, drop, split, fsplit, fsplit3, fjoin, fpick, use0, feq_l, flt_l, some, given, pick, learn, use1, suffices, stop, fld, of_opd, returns, enter, alloc_all, pass_all, free_all, look_at, get, get_in, sets, sub, whole, tables, fact, fact_i, no, RattleType, plain, nothing, param, layout, bounded, alive, Stays, stay_dropped, walk_of, Goes-dropped, El, Good, proved_at, leaves}
use Rattle.lasso_lock.proofs.Values.{alone}
use Rattle.lasso_lock.specs.contracts.latch.Latch as latch
use Rattle.lasso_lock.specs.contracts.latch.Latch.into_inner as f
use Rattle.lasso_lock.proofs.latch.Latch.into_inner.Statement.{statement}
use Rattle.lasso_lock.proofs.latch.Latch.into_inner.Code as code

pub into_inner_spec : {M : Type 1} → statement M
into_inner_spec 𝓤 𝓛 𝓜 𝓡 wired X Y laws_of_X _ g d _ =
    let H = 𝓛.H in let 𝓣 = tables 𝓤 H 𝓜 𝓡 𝓡.env in let R : RattleType = param 0 X in let G : RattleType = param 1 Y in let E : El = record { row = X; laws = laws_of_X } in let ended = f.ended X Y g d in let c = f.clauses X Y g d 𝓛 𝓜.mem 𝓡.returns in
    let inst = bounded (a_type ∷ a_type ∷ []) (X, (Y, tt)) (dcons d dnil) in let fn = inst_fn inst code.function in let Row : RattleType = latch.the_row R G g in
    let self = plain (λ _. Row) in let stays : Stays ended.signature.params ended.kept = (stay_dropped self no, tt) in
    proved_at 𝓛 ended stays c 𝓜 𝓡 (Goes-dropped 𝓛 2 self no (λ κs x w. refl), tt) (f.Key.name inst) fn (code.unfolded 𝓤 H 𝓜 𝓡 wired (X, (Y, tt)) d) (λ z are.
    let tag : Y.Denot = z.0.3.0 in let Post : Val → SProp 𝓤 = (walk_of 𝓛 ended stays c).post z in let Run : List Val → SProp 𝓤 = λ ws. WpFn 𝓤 H 𝓣.C 𝓣.Λ fn ws Post in
    qed 𝓛 ((raw (alive 𝓛 ended.signature z.0.0 z.0.1) ⊛ ‵ (fsep (Row.own_val tag z.0.4.0) ftrue)) ∷ raw ((c z.0.0 z.0.3).requires z.1) ∷ []) ∵ keep ! (0 ∷ []) $ split ! $ move ! (1 ∷ []) $ fsplit ! $ fsplit ! $ drop ! $
    -- [the latch is a word and a value, which fits; nothing; the tokens]
    fpick ! (λ word. fpick ! (λ x. let Fit : Type 0 = g.fits tag x in fsplit ! $ fpick ! (λ fit. drop ! $ fpick ! (λ vss. fsplit ! $ feq_l ! (λ made. fsplit3 ! $ fsplit ! $ feq_l ! (λ number. flt_l ! (λ low.
    use1 𝓛 (some (λ (u : Val). given (Good E u × (vss.1.0 ≡ u ∷ [])) (‵ (R.own_val x (u ∷ []))))) (alone 𝓛 E x vss.1.0) $ pick ! (λ vx. learn ! (λ only. let fx : Good E vx = only.0 in
    let v : Val = vstruct (vcons (vint w64 word) (vcons vx vnil)) in let is_v : z.0.4.0 ≡ v ∷ [] = made ∙ (λ i. vstruct (of_list (number i ++ (only.1 i ++ []))) ∷ []) in
    keep ! (0 ∷ 3 ∷ []) $ suffices ! (Run (v ∷ [])) (subst (λ (ws : List Val). ent 𝓤 (Run (v ∷ [])) (Run ws)) (sym (λ i. is_v i ++ [])) (id⊢ 𝓤 (Run (v ∷ [])))) $
    enter ! 𝓣.C 𝓣.Λ fn (v ∷ []) Post $ alloc_all ! (λ l. pass_all ! refl ((and_tt (has_ty (layout X) vx) fx.0, (record { fits = low }, (fx.1, tt))), tt) $
    sets ! (of_opd ! (get_in ! (fld ! refl (stop !)) (sub ! 1 refl (whole !)))) refl fx $ sets ! (of_opd ! (get ! refl)) refl fx $
    use0 𝓛 (raw (fact 𝓤 Fit)) (fact_i 𝓤 Fit (emp 𝓤) fit) $ nothing ! $ nothing ! $ fjoin ! $
    returns ! (look_at ! 0 refl) $ free_all ! refl $ keep ! (3 ∷ 0 ∷ 2 ∷ 1 ∷ []) $ by ! (leaves 𝓛 ended stays c z vx x (tt, tt) (tt, tt)))))))))))))
