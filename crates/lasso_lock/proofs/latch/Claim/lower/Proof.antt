-- `lower`: a claim ends with one subtraction. Before it a holder of the whole latch lends the value anew. Assumes `Logic`.
-- A claim is opened: it knows its latch, and has its right. By `knowing` the subtraction is a call that takes the right. With a token of α and one of the
-- value's type at hand, the right is first made what the invariant takes back, which for the whole latch is a value that is lent again.
use Rattle.lasso_lock.proofs.Walks.{◌≡◌, ℕ, ◌+◌, List, [], ◌∷◌, sym, refl, ap, subst, lit<, w64, Option, dcons, dnil, a_type, Val, vunit, vint, vptr, inst_fn, SProp, ent, sep, via, Lft, Share, Fml, ftrue, fsep, flft, fbor, finv, WpFn, sem, ‵, raw, ◌⊛◌, some, given, later, mean, at_ret, ◌$◌, ◌∵◌, !, qed, by, move, keep, drop, split, split3, join, fsplit, fjoin, pick, learn, use1, use2, use3, await, updating, now, feq_i, stop, fld, addr, lit, unit_lit, of_opd, no_more, and_then, first, blocks, exec, Calls-last, returns, enter, alloc_all, pass_all, free_all, look_at, get, get_in, through, sets, lands_last, is, env, agg, sub, whole, tables, fact, ◌⊑◌, yes, no, RattleType, owns, types_at, plain, named_lft, Ptr, InBlock, block_ptr, ptr_val, block_of, count_of, at_block, nothing, heard, param, bounded, param_laws, u64, Stays, stay_dropped, walk_of, Goes-dropped, tail, proved_at, leaves, fm, seq_cst, found, finds, subs, After, knowing}
use base.Fml.{Incl-trans}
use contract.BorrowLft.{meet_⊑_left, meet_⊑_right}
use Rattle.lasso_lock.specs.LatchWords.{IsWeight}
use Rattle.lasso_lock.specs.Latches.{Keeping, kept_word, known, entitled}
use Rattle.lasso_lock.specs.contracts.latch.Claim as claim
use Rattle.lasso_lock.proofs.Claims.{claim_val, claim_typed, fields_are, claim_opens}
use Rattle.lasso_lock.proofs.Steps as steps
use Rattle.lasso_lock.specs.contracts.latch.Claim.lower as f
use Rattle.lasso_lock.proofs.latch.Claim.lower.Statement.{statement}
use Rattle.lasso_lock.proofs.latch.Claim.lower.Code as code

pub lower_spec : {M : Type 1} → statement M
lower_spec 𝓤 𝓛 𝓜 𝓡 wired X Y L _ g d _ =
    let H = 𝓛.H in let 𝓣 = tables 𝓤 H 𝓜 𝓡 𝓡.env in let R : RattleType = param 0 X in let G : RattleType = param 1 Y in let lent_as = (param_laws 0 X L).shares 𝓛 in let ended = f.ended X Y g d in let c = f.clauses X Y g d 𝓛 𝓜.mem 𝓡.returns in
    let inst = bounded (a_type ∷ a_type ∷ []) (X, (Y, tt)) (dcons d dnil) in let fn = inst_fn inst code.function in
    let self = plain (λ κs. claim.the_row (named_lft 3 0 tt κs) R G g) in let number = plain (λ _. u64) in let stays : Stays ended.signature.params ended.kept = (stay_dropped self no, (stay_dropped number yes, tt)) in
    proved_at 𝓛 ended stays c 𝓜 𝓡 (Goes-dropped 𝓛 3 self no (λ κs x w. refl), (Goes-dropped 𝓛 3 number yes (λ κs x w. refl), tt)) (f.Key.name inst) fn (code.unfolded 𝓤 H 𝓜 𝓡 wired (X, (Y, tt)) d) (λ z are.
    let κs = z.0.0 in let qs = z.0.1 in let a = z.0.3 in let ℓ = named_lft 3 0 tt κs in let h : (claim.the_row ℓ R G g).Denot = a.0 in let p : Ptr = h.place in let b : ℕ = block_of p in let o : ℕ = count_of p in let right : ℕ = h.right in let v : Option X.Denot = h.value in
    let fits = g.fits h.tag in let κ : Lft = κs.0 in let q : Share = qs.0 in let τ : Lft = κs.1.0 in let r : Share = qs.1.0 in let rest : Fml = fsep (flft κs.1.1.0 qs.1.1.0) ftrue in let less : ℕ = a.1.0 in let low = are.1.0.1 in let Asked : Type 0 = IsWeight right less in
    let Vals : Type 0 = List Val × (List Val × Unit {0}) in let At : Vals → (walk_of 𝓛 ended stays c).Ghost = λ vss. ((κs, qs, z.0.2, a, vss), z.1) in let y : (walk_of 𝓛 ended stays c).Ghost = At (claim_val p ∷ [], (vint w64 less ∷ [], tt)) in
    let Post : Val → SProp 𝓤 = (walk_of 𝓛 ended stays c).post y in let word_vals : List Val = vptr b (o + 0) ∷ vint w64 less ∷ seq_cst ∷ [] in
    subst (λ (vss : Vals). ent 𝓤 ((walk_of 𝓛 ended stays c).pre (At vss)) (WpFn 𝓤 H 𝓣.C 𝓣.Λ fn ((walk_of 𝓛 ended stays c).args (At vss)) ((walk_of 𝓛 ended stays c).post (At vss))))
    (λ i. (sym (fields_are ℓ R G g p z.0.4.0 are.0.0) i, (sym are.1.0.0 i, tt))) (
    qed 𝓛 (((‵ (flft κ q) ⊛ ‵ (flft τ r) ⊛ ‵ rest) ⊛ ‵ (owns (types_at ended.signature.params κs) a y.0.4)) ∷ raw (fact 𝓤 (τ ⊑ X.lives)) ∷ raw (fact 𝓤 _) ∷ raw (fact 𝓤 Asked) ∷ []) ∵
    move ! (1 ∷ 3 ∷ 2 ∷ []) $ heard ! (τ ⊑ X.lives) (λ le. heard ! Asked (λ asked. drop ! $ split ! $ split3 ! $ move ! (3 ∷ []) $ fsplit ! $ fsplit ! $
    -- [the fields; what the claim owns; the number; the tokens of κ and τ; the others]
    keep ! (1 ∷ 3 ∷ 4 ∷ 5 ∷ []) $ use1 𝓛 (some (λ (t : Keeping). given (InBlock p) (‵ (known R fits b o t κ) ⊛ ‵ (entitled R fits b o t right v)))) (claim_opens 𝓛 R fits κ p right v) $ pick ! (λ t. learn ! (λ inside. split ! $
    let placed : p ≡ block_ptr b o = at_block p inside in let I : Fml = fbor t.0 (kept_word R fits b o t) in let held : ℕ → Fml = λ _. flft τ r in let after : ℕ → Fml = After 𝓛 𝓜 𝓡 R fits b o t κ q held in
    enter ! 𝓣.C 𝓣.Λ fn (claim_val p ∷ vint w64 less ∷ []) Post $ alloc_all ! (λ l. pass_all ! refl (claim_typed p inside, ((tt, record { fits = low }), tt)) $ let Locals = env fn.locals l in
    -- the right and the token of τ go into the call
    move ! (1 ∷ 3 ∷ []) $ join ! $ move ! (1 ∷ 2 ∷ 0 ∷ []) $
    use3 𝓛 (later (raw (𝓣.C _ word_vals (λ u. mean 𝓛 (found after u))))) (knowing 𝓛 𝓜 𝓡 R fits b o t κ q _ word_vals (sep 𝓤 (sem 𝓛 (entitled R fits b o t right v)) (𝓛.A.lft τ r)) held held (λ n. 𝓛.laws.⇛_intro _) (λ s.
    let ts = (t.0, s) ∷ (τ, r) ∷ [] in let left : ℕ → Fml = λ n. fsep (flft t.0 s) (flft τ r) in let Offer : Fml = steps.offer 𝓛 R fits b o t right in
    qed 𝓛 (‵ (finv I) ∷ ‵ (flft t.0 s) ∷ (‵ (entitled R fits b o t right v) ⊛ ‵ (flft τ r)) ∷ []) ∵ updating ! $ move ! (2 ∷ []) $ split ! $ move ! (3 ∷ 1 ∷ []) $ join ! $ move ! (1 ∷ 0 ∷ []) $
    use2 𝓛 (later (‵ Offer ⊛ (‵ (flft t.0 s) ⊛ ‵ (flft τ r)))) (steps.offers 𝓛 R fits b o t R.lives lent_as ts (Incl-trans (meet_⊑_right t.0 τ) le) (meet_⊑_left t.0 τ) right v) $ await ! tt $ split ! $ move ! (1 ∷ []) $ split ! $ now ! $
    -- [the token of α; that of τ; what is brought back; the invariant]
    move ! (2 ∷ 1 ∷ []) $ join ! $ move ! (2 ∷ 1 ∷ 0 ∷ []) $ by ! (via 𝓤 _ (steps.lowers 𝓛 R fits b o t s (flft τ r) right less asked)
    (subs 𝓛 𝓜 𝓡 (code.calls-core::raw_atomic::fetch_sub 𝓡.env wired) (block_ptr b (o + 0)) less low left)))) $ await ! tt $
    sets ! (is ! (of_opd ! (get_in ! (fld ! refl (stop !)) (sub ! 0 refl (whole !)))) (ap ptr_val placed)) refl (tt, tt) $ first ! $ blocks ! $ sets ! (addr ! (through ! refl (fld ! refl (stop !)))) refl (tt, tt) $
    sets ! (agg ! (and_then ! (lit ! tt) (no_more !))) refl (tt, (record { fits = lit< tt }, tt)) $
    Calls-last ! (fm 𝓛 𝓜 𝓡) (found after) (and_then ! (get ! refl) (and_then ! (get ! refl) (and_then ! (get ! refl) (no_more !)))) (λ u. finds ! after (λ n fit.
    lands_last ! refl (tt, record { fits = fit }) $ exec ! 𝓣.C 𝓣.Λ Locals (tail (tail fn.body)) (at_ret Locals Post) $ sets ! (of_opd ! (unit_lit !)) refl (tt, tt) $
    -- [what is known; the tokens of κ and τ; the others]
    fsplit ! $ drop ! $ fsplit ! $ move ! (1 ∷ 2 ∷ []) $ join ! $ move ! (1 ∷ 0 ∷ []) $ join ! $ nothing ! $ feq_i ! (List Val) (vunit ∷ []) (vunit ∷ []) refl $ nothing ! $ nothing ! $ fjoin ! $ nothing ! $ fjoin ! $
    returns ! (look_at ! 0 refl) $ free_all ! refl $ keep ! (3 ∷ 0 ∷ 1 ∷ 2 ∷ []) $ by ! (leaves 𝓛 ended stays c y vunit tt (tt, (tt, tt)) (tt, (tt, tt))))))))))))
