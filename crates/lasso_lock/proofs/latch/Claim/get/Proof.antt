-- `get`: a borrowed claim shows the value for as long as it is borrowed. Assumes `Logic`.
-- The `&` to a claim is one to its two fields, beside what the claim lends. A reader's claim lends its value, for the borrow's lifetime, since the latch is
-- lent for longer. The fields are only looked at, for the place of the latch: the value's address is reached from there.
use Rattle.lasso_lock.proofs.Walks.{◌≡◌, ℕ, ◌+◌, List, [], ◌∷◌, sym, refl, ap, ◌∙◌, Option, Some, dcons, dnil, a_type, named, Val, vptr, inst_fn, SProp, emp, Lft, Fml, ftrue, fsep, flft, ‵, raw, ◌⊛◌, some, given, at_ret, ◌$◌, ◌∵◌, !, qed, by, move, keep, split, join, fsplit, fjoin, pick, learn, use0, use1, rewrite, feq_i, stop, fld, hop, addr, of_opd, first, blocks, exec, returns, enter, alloc_all, pass_all, free_all, look_at, get, through, sets, sets_last, env, sub, whole, look_in, tables, fact, fact_i, yes, RattleType, owns, types_at, plain, named_lft, Ptr, InBlock, block_ptr, block_of, count_of, at_block, nothing, peeks, heard, looks, shuts, unhide, Is, shows, cell_at, hidden_shr, shared_of, param, bounded, param_laws, RefOf, shr_vals, shr_Tells, lent_out, Stays, stay_dropped, walk_of, Goes-dropped, tail, proved, leaves}
use base.Fml.{Incl}
use Rattle.lasso_lock.specs.Latches.{value_at, lent_claim}
use Rattle.lasso_lock.specs.contracts.latch.Claim as claim
use Rattle.lasso_lock.proofs.Claims.{claim_val, Fields, fields_are, fields_open, claim_seen}
use Rattle.core.specs.contracts.marker.PhantomData as marker
use Rattle.lasso_lock.specs.contracts.latch.Claim.get as f
use Rattle.lasso_lock.proofs.latch.Claim.get.Statement.{statement}
use Rattle.lasso_lock.proofs.latch.Claim.get.Code as code

pub get_spec : {M : Type 1} → statement M
get_spec 𝓤 𝓛 𝓜 𝓡 wired X Y L _ g d _ =
    let H = 𝓛.H in let 𝓣 = tables 𝓤 H 𝓜 𝓡 𝓡.env in let R : RattleType = param 0 X in let G : RattleType = param 1 Y in let seen_as = (param_laws 0 X L).shr_laws in let ended = f.ended X Y g d in let c = f.clauses X Y g d 𝓛 𝓜.mem 𝓡.returns in
    let inst = bounded (a_type ∷ a_type ∷ []) (X, (Y, tt)) (dcons d dnil) in let fn = inst_fn inst code.function in let lent_claim_row = plain (λ κs. claim.the_row (named_lft 4 1 tt κs) R G g) in
    let lent = RefOf (0 ∷ []) tt lent_claim_row (λ _. tt) in let stays : Stays ended.signature.params ended.kept = (stay_dropped lent yes, tt) in
    proved 𝓛 ended stays c 𝓜 𝓡 (Goes-dropped 𝓛 4 lent yes (λ κs x w. refl), tt) (f.Key.name inst) fn (code.unfolded 𝓤 H 𝓜 𝓡 wired (X, (Y, tt)) d)
    (λ κs. (shr_vals, tt)) (λ κs. let ClaimRow = claim.the_row (named_lft 4 1 tt κs) R G g in (shr_Tells (named 0) κs.0 ClaimRow, tt)) (λ κs qs bounds a gh are.
    let ℓ = named_lft 4 1 tt κs in let D : RattleType = Fields ℓ R G g in let b : ℕ = a.0.ref_ptr.0 in let o : ℕ = a.0.ref_ptr.1 in let κ : Lft = κs.0 in let β : Lft = κs.1.0 in let within_β : Incl κ β = bounds.0 in
    let h : (claim.the_row ℓ R G g).Denot = a.0.now in let p : Ptr = h.place in let fields : D.Denot = (p, (tt, tt)) in let v : Option X.Denot = h.value in let fits = g.fits h.tag in let pb : ℕ = block_of p in let po : ℕ = count_of p in let e : ℕ = po + value_at R in
    let rest : Fml = fsep (flft β qs.1.0) (fsep (flft κs.1.1.0 qs.1.1.0) (fsep (flft κs.1.1.1.0 qs.1.1.1.0) ftrue)) in let Lent : ℕ → Fml = λ right. lent_claim R fits β p right v κ in
    let y : (walk_of 𝓛 ended stays c).Ghost = ((κs, qs, bounds, a, (vptr b o ∷ [], tt)), gh) in let Post : Val → SProp 𝓤 = (walk_of 𝓛 ended stays c).post y in
    qed 𝓛 (((‵ (flft κ qs.0) ⊛ ‵ rest) ⊛ ‵ (owns (types_at ended.signature.params κs) a y.0.4)) ∷ raw (fact 𝓤 _) ∷ raw (fact 𝓤 _) ∷ raw (fact 𝓤 (h.right ≡ 1)) ∷ []) ∵
    keep ! (0 ∷ 3 ∷ []) $ split ! $ split ! $ move ! (2 ∷ []) $ fsplit ! $ fsplit ! $
    -- [a pointer; what the `&` holds; nothing; the token of κ; the others; what is asked]
    keep ! (5 ∷ 1 ∷ 3 ∷ 4 ∷ []) $ heard ! (h.right ≡ 1) (λ reads. enter ! 𝓣.C 𝓣.Λ fn (vptr b o ∷ []) Post $ alloc_all ! (λ l. pass_all ! refl ((tt, tt), tt) $ let Locals = env fn.locals l in
    use1 𝓛 (‵ (hidden_shr D κ fields b o) ⊛ ‵ (base.Fml.fhide (Lent h.right)))
    (lent_out 𝓛 (claim.struct ℓ R G g) (claim.the_codes X.Denot Y.Denot R.coded G.coded (marker.the_row (denote.Ref.ShrRef ℓ.mir ℓ.lft R)).coded) (claim.the_heap β R G g) (claim.the_lent β R G g) κ h b o) $
    split ! $ move ! (1 ∷ []) $ unhide ! $ rewrite ! 0 (λ (right : ℕ). ‵ (Lent right)) reads refl $
    use1 𝓛 (some (λ (x : X.Denot). given (InBlock p × (Some x ≡ v) × fits x) (‵ (shared_of R x pb e κ)))) (claim_seen 𝓛 R fits β seen_as κ within_β p v) $ pick ! (λ x. learn ! (λ so.
    let placed : p ≡ block_ptr pb po = at_block p so.0 in let Told : Type 0 = (Some x ≡ v) × fits x in
    -- [the shared value; the fields; the token of κ; the others]
    move ! (1 ∷ 2 ∷ 0 ∷ []) $ looks ! tt D (fields_open ℓ R G g 𝓛) fields b o (λ part vs. move ! (1 ∷ []) $ peeks ! D (Is D) (shows 𝓛 D) fields vs (λ told.
    let at_latch : vs ≡ claim_val (block_ptr pb po) ∷ [] = fields_are ℓ R G g p vs told ∙ ap (λ (r : Ptr). claim_val r ∷ []) placed in let Memory : List Val → Fml = λ ws. cell_at part D.mir ws b o in
    rewrite ! 1 (λ (ws : List Val). ‵ (Memory ws)) at_latch refl $ first ! $ blocks ! $
    sets_last ! (addr ! (through ! refl (fld ! refl (hop ! (look_in ! 1 (sub ! 0 refl (whole !))) (fld ! refl (stop !)))))) refl (tt, tt) $ exec ! 𝓣.C 𝓣.Λ Locals (tail fn.body) (at_ret Locals Post) $
    sets ! (of_opd ! (get ! refl)) refl (tt, tt) $ rewrite ! 1 (λ (ws : List Val). ‵ (Memory ws)) (sym at_latch) refl $ move ! (1 ∷ 0 ∷ 2 ∷ []) $ shuts ! tt D part fields vs b o $
    -- [the token of κ; the fields; the shared value; the others]
    move ! (0 ∷ 3 ∷ []) $ join ! $ use0 𝓛 (raw (fact 𝓤 Told)) (fact_i 𝓤 Told (emp 𝓤) (so.1, so.2)) $ move ! (3 ∷ []) $ feq_i ! (List Val) (vptr pb e ∷ []) (vptr pb e ∷ []) refl $ fjoin ! $ nothing ! $ nothing ! $ fjoin ! $
    returns ! (look_at ! 0 refl) $ free_all ! refl $ keep ! (3 ∷ 0 ∷ 1 ∷ 2 ∷ []) $ by ! (leaves 𝓛 ended stays c y (vptr pb e) (record { ref_ptr = (pb, e); now = x }) (tt, tt) (tt, tt)))))))))
