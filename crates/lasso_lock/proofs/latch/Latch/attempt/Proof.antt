-- `attempt`: one exchange, and the claim that it gains. Assumes `Logic`.
-- By `knowing` the exchange is a call that leaves the caller's knowledge of the latch and its token as they were, and beside them what was won: a right
-- that the exchange tells of by the word that it found. The knowledge and the right are a claim, and the claim and the word are the pair that is returned.
use Rattle.lasso_lock.proofs.Walks.{◌≡◌, ℕ, ◌+◌, ◌^◌, List, [], ◌∷◌, refl, w64, Option, dcons, dnil, a_type, named, Val, WT, vint, vptr, vstruct, vcons, vnil, inst_fn, SProp, sem, emp, via, Lft, Share, Fml, ftrue, fsep, flft, ‵, raw, ◌⊛◌, later, mean, at_ret, ◌$◌, ◌∵◌, !, qed, by, move, keep, drop, split, join, fsplit, fjoin, fpick, use0, use2, use3, await, feq_i, flt_i, stop, fld, addr, of_opd, no_more, and_then, first, blocks, exec, Calls-last, returns, enter, alloc_all, pass_all, free_all, look_at, get, through, sets, lands_last, env, agg, tables, fact, fact_i, yes, RattleType, owns, types_at, plain, named_lft, Ptr, block_ptr, nothing, heard, unhide, param, bounded, param_laws, RefOf, u64, shr_vals, shr_Tells, uint_vals, uint_Tells, Stays, stay_dropped, walk_of, Goes-dropped, tail, proved, leaves, fm, found, finds, exchanges, After, knowing}
use Rattle.lasso_lock.specs.LatchWords.{IsTurn, Outcome}
use Rattle.lasso_lock.specs.contracts.latch.Latch as latch
use Rattle.lasso_lock.specs.contracts.latch.Claim as claim
use Rattle.lasso_lock.proofs.Claims.{claim_val, claim_made}
use Rattle.lasso_lock.proofs.Values.{of_pair, paired}
use Rattle.lasso_lock.proofs.Steps as steps
use Rattle.lasso_lock.specs.contracts.latch.Latch.attempt as f
use Rattle.lasso_lock.proofs.latch.Latch.attempt.Statement.{statement}
use Rattle.lasso_lock.proofs.latch.Latch.attempt.Code as code

pub attempt_spec : {M : Type 1} → statement M
attempt_spec 𝓤 𝓛 𝓜 𝓡 wired X Y L _ g d _ =
    let H = 𝓛.H in let 𝓣 = tables 𝓤 H 𝓜 𝓡 𝓡.env in let R : RattleType = param 0 X in let G : RattleType = param 1 Y in let seen_as = (param_laws 0 X L).shr_laws in let ended = f.ended X Y g d in let c = f.clauses X Y g d 𝓛 𝓜.mem 𝓡.returns in
    let inst = bounded (a_type ∷ a_type ∷ []) (X, (Y, tt)) (dcons d dnil) in let fn = inst_fn inst code.function in let Row : RattleType = latch.the_row R G g in
    let shared = RefOf (0 ∷ []) tt (plain (λ _. Row)) (λ _. tt) in let u64_as = plain (λ _. u64) in let number_goes = Goes-dropped 𝓛 3 u64_as yes (λ κs x w. refl) in
    let stays : Stays ended.signature.params ended.kept = (stay_dropped shared yes, (stay_dropped u64_as yes, (stay_dropped u64_as yes, tt))) in
    proved 𝓛 ended stays c 𝓜 𝓡 (Goes-dropped 𝓛 3 shared yes (λ κs x w. refl), (number_goes, (number_goes, tt))) (f.Key.name inst) fn (code.unfolded 𝓤 H 𝓜 𝓡 wired (X, (Y, tt)) d)
    (λ κs. (shr_vals, (uint_vals w64, (uint_vals w64, tt)))) (λ κs. let number_tells = uint_Tells w64 in (shr_Tells (named 0) κs.0 Row, (number_tells, (number_tells, tt)))) (λ κs qs bounds a gh are.
    let b : ℕ = a.0.ref_ptr.0 in let o : ℕ = a.0.ref_ptr.1 in let old : ℕ = a.1.0 in let new : ℕ = a.1.1.0 in let old_low = are.1.0.1 in let new_low = are.1.1.0.1 in let tag = a.0.now in let fits = g.fits tag in
    let κ : Lft = κs.0 in let q : Share = qs.0 in let ℓ = named_lft 3 0 tt κs in let ClaimRow = claim.the_row ℓ R G g in let rest : Fml = fsep (flft κs.1.0 qs.1.0) (fsep (flft κs.1.1.0 qs.1.1.0) ftrue) in
    let given_vals : List Val = vptr b o ∷ vint w64 old ∷ vint w64 new ∷ [] in let word_vals : List Val = vptr b (o + 0) ∷ vint w64 old ∷ vint w64 new ∷ [] in
    let y : (walk_of 𝓛 ended stays c).Ghost = ((κs, qs, bounds, a, (vptr b o ∷ [], (vint w64 old ∷ [], (vint w64 new ∷ [], tt)))), gh) in let Post : Val → SProp 𝓤 = (walk_of 𝓛 ended stays c).post y in
    qed 𝓛 (((‵ (flft κ q) ⊛ ‵ rest) ⊛ ‵ (owns (types_at ended.signature.params κs) a y.0.4)) ∷ raw (fact 𝓤 _) ∷ raw (fact 𝓤 _) ∷ raw (fact 𝓤 (IsTurn old new)) ∷ []) ∵
    keep ! (0 ∷ 3 ∷ []) $ split ! $ split ! $ move ! (2 ∷ []) $ fsplit ! $ fsplit ! $
    -- [a pointer; what the `&` holds; the numbers; the token of κ; the others; what is asked]
    keep ! (5 ∷ 1 ∷ 3 ∷ 4 ∷ []) $ heard ! (IsTurn old new) (λ asked.
    enter ! 𝓣.C 𝓣.Λ fn given_vals Post $ alloc_all ! (λ l. pass_all ! refl ((tt, tt), ((tt, record { fits = old_low }), ((tt, record { fits = new_low }), tt))) $ let Locals = env fn.locals l in
    unhide ! $ fpick ! (λ t. let won : ℕ → Fml = steps.Won 𝓛 R fits b o t old new in let has : ℕ → Fml = steps.Has 𝓛 R fits b o t old new in let after : ℕ → Fml = After 𝓛 𝓜 𝓡 R fits b o t κ q has in
    nothing ! $ move ! (1 ∷ 2 ∷ 0 ∷ []) $ use3 𝓛 (later (raw (𝓣.C _ word_vals (λ u. mean 𝓛 (found after u))))) (knowing 𝓛 𝓜 𝓡 R fits b o t κ q _ word_vals (sem 𝓛 ftrue) won has (steps.spends 𝓛 R fits b o t old new) (λ s.
    let exchanged : ℕ → Fml = λ n. fsep (flft t.0 s) (won n) in via 𝓤 _ (steps.turns 𝓛 R fits b o t s seen_as old new asked)
    (via 𝓤 _ (exchanges 𝓛 𝓜 𝓡 (code.calls-atomic_table::exchange 𝓡.env wired) (block_ptr b (o + 0)) old new old_low new_low exchanged) (𝓛.laws.⇛_intro _)))) $ await ! tt $
    first ! $ blocks ! $ sets ! (addr ! (through ! refl (fld ! refl (stop !)))) refl (tt, tt) $
    Calls-last ! (fm 𝓛 𝓜 𝓡) (found after) (and_then ! (get ! refl) (and_then ! (get ! refl) (and_then ! (get ! refl) (no_more !)))) (λ u. finds ! after (λ n low.
    let word_fits : WT (vint w64 n) = record { fits = low } in lands_last ! refl (tt, word_fits) $ exec ! 𝓣.C 𝓣.Λ Locals (tail fn.body) (at_ret Locals Post) $ sets ! (of_opd ! (get ! refl)) refl (tt, word_fits) $
    -- the claim, and the pair of it and the word
    sets ! (addr ! (through ! refl (stop !))) refl (tt, tt) $ sets ! (agg ! (no_more !)) refl (tt, tt) $
    sets ! (agg ! (and_then ! (get ! refl) (and_then ! (get ! refl) (no_more !)))) refl (tt, (tt, (tt, tt))) $ sets ! (of_opd ! (get ! refl)) refl (tt, (tt, (tt, tt))) $
    sets ! (agg ! (and_then ! (get ! refl) (and_then ! (get ! refl) (no_more !)))) refl (tt, ((tt, (tt, tt)), (word_fits, tt))) $
    -- [what is known; the token of κ; the right, with what it says of the word; the other tokens]
    fsplit ! $ move ! (1 ∷ []) $ fsplit ! $ move ! (0 ∷ 3 ∷ []) $ join ! $ move ! (1 ∷ []) $ fpick ! (λ got. fsplit ! $ fpick ! (λ outcome. drop ! $ let right : ℕ = got.0 in let v : Option X.Denot = got.1 in let p : Ptr = block_ptr b o in
    let h : ClaimRow.Denot = record { place = p; borrow = record {}; right = right; tag = tag; value = v } in let r : Val = vstruct (vcons (claim_val p) (vcons (vint w64 n) vnil)) in let Told : Type 0 = Outcome old new n right × (tag ≡ tag) in
    move ! (2 ∷ 0 ∷ []) $ use2 𝓛 (‵ (ClaimRow.own_val h (claim_val p ∷ []))) (claim_made ℓ R G g 𝓛 b o t right tag v) $ flt_i ! n (2 ^ 64) low $ feq_i ! (List Val) (vint w64 n ∷ []) (vint w64 n ∷ []) refl $ fjoin ! $
    move ! (1 ∷ 0 ∷ []) $ use2 𝓛 (‵ (of_pair 𝓛 ClaimRow u64 h n r)) (paired 𝓛 ClaimRow u64 h n (claim_val p) (vint w64 n)) $
    use0 𝓛 (raw (fact 𝓤 Told)) (fact_i 𝓤 Told (emp 𝓤) (outcome, refl)) $ nothing ! $ nothing ! $ fjoin ! $ nothing ! $ fjoin ! $ nothing ! $ fjoin ! $
    returns ! (look_at ! 0 refl) $ free_all ! refl $ keep ! (3 ∷ 0 ∷ 2 ∷ 1 ∷ []) $ by ! (leaves 𝓛 ended stays c y r (h, n) (tt, (tt, (tt, tt))) (tt, (tt, (tt, tt))))))))))))
