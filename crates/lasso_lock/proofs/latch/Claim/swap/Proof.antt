-- `swap`: who has the whole latch opens its borrow, reads the value and writes the other, and closes the borrow over that one. Assumes `Logic`.
-- The claim is opened to what it knows and to its lot and borrow. A token of α, bought for one of the claim's own, opens the borrow at the one machine
-- value of the content, which is read. The new value is written there and is a content again, so the borrow closes and the token goes back. What the
-- claim knew, its lot and the borrow make the claim that is returned, paired with the old value.
use Rattle.lasso_lock.proofs.Walks.{◌≡◌, ℕ, ◌+◌, List, [], ◌∷◌, sym, refl, ap, subst, Option, and_tt, dcons, dnil, a_type, Val, vstruct, vcons, vnil, has_ty, inst_fn, full_share, SProp, ent, emp, apply∗, Lft, Share, Fml, ftrue, fsep, flft, fbor, finv, WpFn, ‵, raw, ◌⊛◌, some, given, later, at_ret, ◌$◌, ◌∵◌, !, qed, by, move, keep, split, split3, join, fsplit, fsplit3, fjoin, pick, learn, use0, use1, use2, await, rewrite, stop, fld, load, addr, of_opd, no_more, and_then, first, blocks, exec, assigns, look_raw, store_raw, returns, enter, alloc_all, pass_all, free_all, look_at, get, get_in, through, sets, sets_last, is, env, agg, sub, whole, bor_open, obor_close, tables, fact, fact_i, no, RattleType, owns, types_at, plain, named_lft, Ptr, InBlock, block_ptr, ptr_val, block_of, count_of, at_block, nothing, heard, cell_at, param, layout, bounded, Stays, stay_dropped, walk_of, Goes-dropped, tail, El, lawful, Good, one, proved_at, leaves, Returned, reaches}
use Rattle.lasso_lock.specs.Latches.{Keeping, value_at, content, kept_word, known, entitled}
use Rattle.lasso_lock.specs.contracts.latch.Claim as claim
use Rattle.lasso_lock.proofs.Claims.{claim_val, claim_typed, fields_are, claim_made, claim_opens}
use Rattle.lasso_lock.proofs.Values.{of_pair, paired, content_opens, content_closes}
use Rattle.lasso_lock.specs.contracts.latch.Claim.swap as f
use Rattle.lasso_lock.proofs.latch.Claim.swap.Statement.{statement}
use Rattle.lasso_lock.proofs.latch.Claim.swap.Code as code

pub swap_spec : {M : Type 1} → statement M
swap_spec 𝓤 𝓛 𝓜 𝓡 wired X Y L _ g d _ =
    let H = 𝓛.H in let 𝓣 = tables 𝓤 H 𝓜 𝓡 𝓡.env in let R : RattleType = param 0 X in let G : RattleType = param 1 Y in let E : El = record { row = X; laws = L } in let ended = f.ended X Y g d in let c = f.clauses X Y g d 𝓛 𝓜.mem 𝓡.returns in
    let inst = bounded (a_type ∷ a_type ∷ []) (X, (Y, tt)) (dcons d dnil) in let fn = inst_fn inst code.function in
    let self = plain (λ κs. claim.the_row (named_lft 3 0 tt κs) R G g) in let item = plain (λ _. R) in let stays : Stays ended.signature.params ended.kept = (stay_dropped self no, (stay_dropped item no, tt)) in
    proved_at 𝓛 ended stays c 𝓜 𝓡 (Goes-dropped 𝓛 3 self no (λ κs x w. refl), (Goes-dropped 𝓛 3 item no (λ κs x w. refl), tt)) (f.Key.name inst) fn (code.unfolded 𝓤 H 𝓜 𝓡 wired (X, (Y, tt)) d) (λ z are.
    let κs = z.0.0 in let qs = z.0.1 in let a = z.0.3 in let ℓ = named_lft 3 0 tt κs in let ClaimRow = claim.the_row ℓ R G g in let h : ClaimRow.Denot = a.0 in let p : Ptr = h.place in let b : ℕ = block_of p in let o : ℕ = count_of p in let v : Option X.Denot = h.value in
    let fits = g.fits h.tag in let κ : Lft = κs.0 in let q : Share = qs.0 in let rest : Fml = fsep (flft κs.1.0 qs.1.0) (fsep (flft κs.1.1.0 qs.1.1.0) ftrue) in let x : X.Denot = a.1.0 in let e : ℕ = o + value_at R in let C : Fml = content R fits b o in
    let new_one = one E z.0.4.1.0 ((lawful E 𝓛).typed x z.0.4.1.0 are.1.0) in let vx : Val = new_one.0 in let fx : Good E vx = new_one.2 in
    let Vals : Type 0 = List Val × (List Val × Unit {0}) in let At : Vals → (walk_of 𝓛 ended stays c).Ghost = λ vss. ((κs, qs, z.0.2, a, vss), z.1) in let y : (walk_of 𝓛 ended stays c).Ghost = At (claim_val p ∷ [], (vx ∷ [], tt)) in
    let Post : Val → SProp 𝓤 = (walk_of 𝓛 ended stays c).post y in let Asked : Type 0 = (h.right ≡ 2) × fits x in
    subst (λ (vss : Vals). ent 𝓤 ((walk_of 𝓛 ended stays c).pre (At vss)) (WpFn 𝓤 H 𝓣.C 𝓣.Λ fn ((walk_of 𝓛 ended stays c).args (At vss)) ((walk_of 𝓛 ended stays c).post (At vss))))
    (λ i. (sym (fields_are ℓ R G g p z.0.4.0 are.0.0) i, (sym new_one.1 i, tt))) (
    qed 𝓛 (((‵ (flft κ q) ⊛ ‵ rest) ⊛ ‵ (owns (types_at ended.signature.params κs) a y.0.4)) ∷ raw (fact 𝓤 _) ∷ raw (fact 𝓤 _) ∷ raw (fact 𝓤 Asked) ∷ []) ∵
    keep ! (0 ∷ 3 ∷ []) $ split ! $ split ! $ move ! (2 ∷ []) $ fsplit3 ! $ fsplit ! $
    -- [the fields; what the claim owns; the new value; nothing; the token of κ; the others; what is asked]
    keep ! (6 ∷ 1 ∷ 4 ∷ 2 ∷ 5 ∷ []) $ heard ! Asked (λ asked.
    use1 𝓛 (some (λ (t : Keeping). given (InBlock p) (‵ (known R fits b o t κ) ⊛ ‵ (entitled R fits b o t h.right v)))) (claim_opens 𝓛 R fits κ p h.right v) $ pick ! (λ t. learn ! (λ inside. split ! $
    let placed : p ≡ block_ptr b o = at_block p inside in let I : Fml = fbor t.0 (kept_word R fits b o t) in move ! (1 ∷ []) $ rewrite ! 0 (λ (right : ℕ). ‵ (entitled R fits b o t right v)) asked.0 refl $
    enter ! 𝓣.C 𝓣.Λ fn (claim_val p ∷ vx ∷ []) Post $ alloc_all ! (λ l. pass_all ! refl (claim_typed p inside, (fx, tt)) $ let Locals = env fn.locals l in
    -- [the lot and the borrow; what is known; the token of κ; the new value; the others]
    fsplit ! $ move ! (2 ∷ 3 ∷ []) $ use2 𝓛 (later (some (λ (s : Share). (‵ (finv I) ⊛ ‵ (flft t.0 s)) ⊛ raw (Returned 𝓛 𝓜 𝓡 R fits b o t κ q s) ⊛ ‵ (known R fits b o t κ)))) (reaches 𝓛 𝓜 𝓡 R fits b o t κ q) $ await ! tt $ pick ! (λ s. split3 ! $ split ! $
    -- [the invariant; the token of α; the way back; what is known; the lot; the borrow; the new value; the others]
    move ! (5 ∷ 1 ∷ []) $ bor_open ! tt $ move ! (1 ∷ []) $
    use1 𝓛 (some (λ (s : X.Denot × Val). given (fits s.0 × Good E s.1) (‵ (cell_at full_share R.mir (s.1 ∷ []) b e) ⊛ ‵ (R.own_val s.0 (s.1 ∷ []))))) (content_opens 𝓛 E fits b o) $ pick ! (λ was. learn ! (λ so. split ! $
    let old : X.Denot = was.0 in let vo : Val = was.1 in let fo : Good E vo = so.1 in let pb : Ptr = block_ptr b o in
    -- [the memory; the old value; the open borrow; the invariant; the way back; what is known; the lot; the new value; the others]
    sets ! (is ! (of_opd ! (get_in ! (fld ! refl (stop !)) (sub ! 0 refl (whole !)))) (ap ptr_val placed)) refl (tt, tt) $ first ! $ blocks ! $ sets ! (addr ! (through ! refl (fld ! refl (stop !)))) refl (tt, tt) $
    sets ! (of_opd ! (load ! (through ! refl (stop !)) (look_raw ! 0 refl))) refl fo $ sets ! (of_opd ! (get ! refl)) refl fx $
    assigns ! (of_opd ! (get ! refl)) (through ! refl (stop !)) (store_raw ! 0 refl fx) $ sets_last ! (of_opd ! (get ! refl)) refl fo $
    exec ! 𝓣.C 𝓣.Λ Locals (tail (tail fn.body)) (at_ret Locals Post) $ sets ! (of_opd ! (get ! refl)) refl fo $
    sets ! (agg ! (no_more !)) refl (tt, tt) $ sets ! (agg ! (and_then ! (get ! refl) (and_then ! (get ! refl) (no_more !)))) refl (tt, (tt, (tt, tt))) $
    sets ! (of_opd ! (get ! refl)) refl (tt, (tt, (tt, tt))) $ sets ! (of_opd ! (get ! refl)) refl fo $
    sets ! (agg ! (and_then ! (get ! refl) (and_then ! (get ! refl) (no_more !)))) refl (and_tt (has_ty (layout X) vo) fo.0, ((tt, (tt, tt)), (fo.1, tt))) $
    move ! (0 ∷ 7 ∷ []) $ use2 𝓛 (‵ C) (content_closes 𝓛 E fits b o x vx asked.1) $ move ! (2 ∷ 0 ∷ []) $ obor_close ! tt $
    -- [the borrow; the token of α; the old value; the invariant; the way back; what is known; the lot; the others]
    move ! (1 ∷ 4 ∷ []) $ use2 𝓛 (later (‵ (flft κ q))) (apply∗ 𝓤 (𝓛.A.lft t.0 s) (H.⇛ (𝓛.A.lft κ q))) $ await ! tt $ move ! (0 ∷ 6 ∷ []) $ join ! $ move ! (5 ∷ 1 ∷ []) $ fjoin ! $ move ! (4 ∷ 0 ∷ []) $
    use2 𝓛 (‵ (ClaimRow.own_val (record { place = pb; borrow = record {}; right = 2; tag = h.tag; value = v }) (claim_val pb ∷ []))) (claim_made ℓ R G g 𝓛 b o t 2 h.tag v) $ move ! (0 ∷ 2 ∷ []) $
    let made : ClaimRow.Denot = record { place = pb; borrow = record {}; right = 2; tag = h.tag; value = v } in let r : Val = vstruct (vcons (claim_val pb) (vcons vo vnil)) in let Told : Type 0 = (2 ≡ 2) × (h.tag ≡ h.tag) × fits old in
    use2 𝓛 (‵ (of_pair 𝓛 ClaimRow R made old r)) (paired 𝓛 ClaimRow R made old (claim_val pb) vo) $ use0 𝓛 (raw (fact 𝓤 Told)) (fact_i 𝓤 Told (emp 𝓤) (refl, refl, so.0)) $ nothing ! $ nothing ! $ fjoin ! $ nothing ! $ fjoin ! $
    returns ! (look_at ! 0 refl) $ free_all ! refl $ keep ! (3 ∷ 0 ∷ 2 ∷ 1 ∷ []) $ by ! (leaves 𝓛 ended stays c y r (made, old) (tt, (tt, tt)) (tt, (tt, tt))))))))))))
