-- `address_at` moves the pointer, which leads to a block.
use Rattle.lasso_log.proofs.WalkWords.{◌≡◌, ◌<◌, ◌^◌, ◌+◌, [], ◌∷◌, List, ℕ, arith, w64, refl, sym, ap, ◌∙◌, Val, vptr, vint, ftrue, ‵, raw, ◌⊛◌, prop, at_ret, ◌$◌, ◌∵◌, !, qed, keep, move, split, fjoin, regoal, of_opd, first, blocks, exec, returns, enter, alloc_all, pass_all, free_all, look_at, get, sets, sets_last, env, tables, yes, Stays, stay_dropped, Goes-dropped, walk_of, proved, owns, types_at, plain, usize, RawPtr, nothing, fact, uint_vals, uint_Tells, ptr_val, Ptr, block_ptr, block_of, count_of, says, ends_at, suffices, feq_i, done}
use denote.RawPtr.{◌+ₚ◌}
use denote.Steps.{heard}
use prog.Wp.{WpFn}
use types.Run.{bin}
use Rattle.lasso_parts.specs.Block.{LeadsToBlock}
use Rattle.lasso_log.specs.contracts.shared_memory.piece.address_at as f
use Rattle.lasso_log.proofs.shared_memory.piece.address_at.Statement.{statement}
use Rattle.lasso_log.proofs.shared_memory.piece.address_at.Code as code

abbrev stayed : Stays f.ended.signature.params f.ended.kept
stayed = (stay_dropped (plain (λ _. RawPtr)) yes, (stay_dropped (plain (λ _. usize)) yes, tt))

pub address_at_spec : {M : Type 1} → statement M
address_at_spec 𝓤 𝓛 𝓜 𝓡 wired =
    let H = 𝓛.H in let c = f.clauses 𝓛 𝓜.mem 𝓡.returns in let W = walk_of 𝓛 f.ended stayed c in let 𝓣 = tables 𝓤 H 𝓜 𝓡 𝓡.env in
    proved 𝓛 f.ended stayed c 𝓜 𝓡 (Goes-dropped 𝓛 0 (plain (λ _. RawPtr)) yes (λ κs x w. refl), (Goes-dropped 𝓛 0 (plain (λ _. usize)) yes (λ κs x w. refl), tt))
    f.Key.name code.function (code.unfolded 𝓤 H 𝓜 𝓡 wired)
    (λ κs. ((λ p. ptr_val p ∷ []), (uint_vals w64, tt))) (λ κs. ((λ p vs told. told), (uint_Tells w64, tt))) (λ κs qs bounds a gh are.
    let ptr : Ptr = a.0 in let n : ℕ = a.1.0 in let b : ℕ = block_of ptr in let o : ℕ = count_of ptr in let fits : n < 2 ^ 64 = are.1.0.1 in
    let y : W.Ghost = ((κs, qs, bounds, a, (ptr_val ptr ∷ [], (uint_vals w64 n, tt))), gh) in
    qed 𝓛 ((‵ ftrue ⊛ ‵ (owns (types_at f.ended.signature.params κs) a y.0.4)) ∷ raw (fact 𝓤 (LeadsToBlock ptr)) ∷ []) ∵
    move ! (1 ∷ []) $ heard ! (LeadsToBlock ptr) (λ at. split ! $ keep ! (0 ∷ []) $
    regoal ! (λ (v : Val). prop (WpFn 𝓤 H 𝓣.C 𝓣.Λ code.function (v ∷ vint w64 n ∷ []) (W.post y))) (ap ptr_val at) refl $
    enter ! _ _ _ _ _ $ alloc_all ! (λ l. pass_all ! refl ((tt, tt), ((tt, record { fits = fits }), tt)) $
    first ! $ blocks ! $ sets_last ! (bin ! (get ! refl) (get ! refl) tt) refl (tt, tt) $
    exec ! 𝓣.C 𝓣.Λ (env code.Mir.locals l) code.Mir.t-2 (at_ret _ (W.post y)) $ sets ! (of_opd ! (get ! refl)) refl (tt, tt) $
    feq_i ! (List Val) (vptr b (n + o) ∷ []) (vptr b (n + o) ∷ []) refl $
    returns ! (look_at ! 0 refl) $ free_all ! refl $
    suffices ! _ (ends_at 𝓛 f.ended stayed c y (vptr b (n + o)) (block_ptr b (n + o)) (tt, (tt, tt)) (tt, (tt, tt))) $
    let swapped : n + o ≡ o + n = omega arith in
    says ! (ap (block_ptr b) swapped ∙ ap (λ (p : Ptr). p +ₚ n) (sym at)) $
    move ! (1 ∷ []) $ nothing ! $ nothing ! $ fjoin ! $ nothing ! $ fjoin ! $ move ! (1 ∷ 0 ∷ []) $ done !)))
