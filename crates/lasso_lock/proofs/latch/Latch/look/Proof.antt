-- `look`: one load, which changes nothing. Assumes `Logic`.
-- By `knowing` the load is a call that takes what the `&` knows of the latch and its token, and brings both back beside a word, of which nothing is said:
-- other threads may have changed it since.
use Rattle.lasso_lock.proofs.Walks.{ℕ, ◌^◌, ◌+◌, List, [], ◌∷◌, refl, lit<, w64, dcons, dnil, a_type, named, Val, WT, vint, vptr, inst_fn, SProp, sem, via, Lft, Share, Fml, ftrue, fsep, flft, ‵, raw, ◌⊛◌, later, mean, at_ret, ◌$◌, ◌∵◌, !, qed, by, move, keep, split, join, fsplit, fjoin, fpick, use3, await, feq_i, flt_i, stop, fld, addr, lit, of_opd, no_more, and_then, first, blocks, exec, Calls-last, returns, enter, alloc_all, pass_all, free_all, look_at, get, through, sets, lands_last, env, agg, tables, yes, RattleType, owns, types_at, plain, block_ptr, nothing, unhide, param, bounded, RefOf, shr_vals, shr_Tells, Stays, stay_dropped, walk_of, Goes-dropped, tail, proved, leaves, fm, seq_cst, found, finds, loads, After, knowing}
use Rattle.lasso_lock.specs.contracts.latch.Latch as latch
use Rattle.lasso_lock.specs.contracts.latch.Latch.look as f
use Rattle.lasso_lock.proofs.latch.Latch.look.Statement.{statement}
use Rattle.lasso_lock.proofs.latch.Latch.look.Code as code
use Rattle.lasso_lock.proofs.Steps as steps

pub look_spec : {M : Type 1} → statement M
look_spec 𝓤 𝓛 𝓜 𝓡 wired X Y L _ g d _ =
    let H = 𝓛.H in let 𝓣 = tables 𝓤 H 𝓜 𝓡 𝓡.env in let R : RattleType = param 0 X in let G : RattleType = param 1 Y in let ended = f.ended X Y g d in let c = f.clauses X Y g d 𝓛 𝓜.mem 𝓡.returns in
    let inst = bounded (a_type ∷ a_type ∷ []) (X, (Y, tt)) (dcons d dnil) in let fn = inst_fn inst code.function in let Row : RattleType = latch.the_row R G g in
    let shared = RefOf (0 ∷ []) tt (plain (λ _. Row)) (λ _. tt) in let stays : Stays ended.signature.params ended.kept = (stay_dropped shared yes, tt) in
    proved 𝓛 ended stays c 𝓜 𝓡 (Goes-dropped 𝓛 3 shared yes (λ κs x w. refl), tt) (f.Key.name inst) fn (code.unfolded 𝓤 H 𝓜 𝓡 wired (X, (Y, tt)) d)
    (λ κs. (shr_vals, tt)) (λ κs. (shr_Tells (named 0) κs.0 Row, tt)) (λ κs qs bounds a gh are.
    let b : ℕ = a.0.ref_ptr.0 in let o : ℕ = a.0.ref_ptr.1 in let fits = g.fits a.0.now in let κ : Lft = κs.0 in let q : Share = qs.0 in let rest : Fml = fsep (flft κs.1.0 qs.1.0) (fsep (flft κs.1.1.0 qs.1.1.0) ftrue) in
    let word_vals : List Val = vptr b (o + 0) ∷ seq_cst ∷ [] in let nothing_won : ℕ → Fml = λ _. ftrue in
    let y : (walk_of 𝓛 ended stays c).Ghost = ((κs, qs, bounds, a, (vptr b o ∷ [], tt)), gh) in let Post : Val → SProp 𝓤 = (walk_of 𝓛 ended stays c).post y in
    qed 𝓛 (((‵ (flft κ q) ⊛ ‵ rest) ⊛ ‵ (owns (types_at ended.signature.params κs) a y.0.4)) ∷ raw ((c κs a).requires gh) ∷ []) ∵
    keep ! (0 ∷ []) $ split ! $ split ! $ move ! (2 ∷ []) $ fsplit ! $ fsplit ! $
    -- [a pointer; what the `&` holds; nothing; the token of κ; the others]
    move ! (1 ∷ 3 ∷ 2 ∷ 4 ∷ []) $ enter ! 𝓣.C 𝓣.Λ fn (vptr b o ∷ []) Post $ alloc_all ! (λ l. pass_all ! refl ((tt, tt), tt) $ let Locals = env fn.locals l in
    unhide ! $ fpick ! (λ t. let after : ℕ → Fml = After 𝓛 𝓜 𝓡 R fits b o t κ q nothing_won in
    use3 𝓛 (later (raw (𝓣.C _ word_vals (λ u. mean 𝓛 (found after u))))) (knowing 𝓛 𝓜 𝓡 R fits b o t κ q _ word_vals (sem 𝓛 ftrue) nothing_won nothing_won (λ n. 𝓛.laws.⇛_intro _) (λ s.
    let loaded : ℕ → Fml = λ n. fsep (flft t.0 s) ftrue in via 𝓤 _ (steps.looks 𝓛 R fits b o t s)
    (via 𝓤 _ (loads 𝓛 𝓜 𝓡 (code.calls-core::raw_atomic::load 𝓡.env wired) (block_ptr b (o + 0)) loaded) (𝓛.laws.⇛_intro _)))) $ await ! tt $
    first ! $ blocks ! $ sets ! (addr ! (through ! refl (fld ! refl (stop !)))) refl (tt, tt) $ sets ! (agg ! (and_then ! (lit ! tt) (no_more !))) refl (tt, (record { fits = lit< tt }, tt)) $
    Calls-last ! (fm 𝓛 𝓜 𝓡) (found after) (and_then ! (get ! refl) (and_then ! (get ! refl) (no_more !))) (λ u. finds ! after (λ n low. let word_fits : WT (vint w64 n) = record { fits = low } in
    lands_last ! refl (tt, word_fits) $ exec ! 𝓣.C 𝓣.Λ Locals (tail fn.body) (at_ret Locals Post) $ sets ! (of_opd ! (get ! refl)) refl (tt, word_fits) $
    -- [the token of κ; nothing; what is known; the other tokens; a pointer]
    fsplit ! $ move ! (1 ∷ []) $ fsplit ! $ move ! (0 ∷ 3 ∷ []) $ join ! $ move ! (1 ∷ []) $
    nothing ! $ fjoin ! $ nothing ! $ flt_i ! n (2 ^ 64) low $ feq_i ! (List Val) (vint w64 n ∷ []) (vint w64 n ∷ []) refl $ fjoin ! $
    returns ! (look_at ! 0 refl) $ free_all ! refl $ keep ! (3 ∷ 2 ∷ 0 ∷ 1 ∷ []) $ by ! (leaves 𝓛 ended stays c y (vint w64 n) n (tt, tt) (tt, tt)))))))
