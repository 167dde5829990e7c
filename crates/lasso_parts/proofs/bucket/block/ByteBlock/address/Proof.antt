-- `address` moves the pointer to the first place by `start`.
--
-- A `&` to the places is a `&` to their pointer and one to the row of slots. The pointer is where the row begins,
-- and it leads to a block, in which the machine moves it.
use Rattle.std.proofs.Common.{◌≡◌, ℕ, ◌+◌, ◌≤◌, List, [], ◌∷◌, refl, sym, ap, ◌∙◌, arith, w64}
use base.Fml.{Lft, Share, ftrue, flft}
use mir.Syntax.{named}
use mir.Val.{Val, vptr}
use types.Kit.{‵, raw, ◌⊛◌, at_ret, ◌$◌, ◌∵◌, !, qed, move, keep, split, join, fsplit, fjoin, fpick, feq_i, suffices, drop as let_go, done}
use types.Run.{look, stop, fld, load, of_opd, bin, first, blocks, exec, enter, returns}
use types.ByLocal.{alloc_all, pass_all, free_all, look_at, get, through, sets, sets_last, env}
use contract.Monad.{fact}
use contract.Running.{tables}
use denote.Builtin.{usize, RefOf}
use denote.Exit.{yes}
use denote.Opens.{hide, unhide}
use denote.Plain.{uint_vals, uint_Tells}
use denote.RattleType.{owns}
use denote.RawPtr.{Ptr, block_ptr, block_of, count_of, ◌+ₚ◌}
use denote.Ref.{shr_vals, shr_Tells}
use denote.Signature.{plain, types_at}
use denote.Steps.{nothing}
use denote.Triple.Walked.{Stays, stay_dropped, Goes-dropped, walk_of, says, ends_at}
use Rattle.std.proofs.raw_atomic.Walks.{proved}
use Rattle.core.specs.Mem.Slots.{slots_ptr, slots_len}
use Rattle.core.specs.declared.slots.Slots.{Slots}
use Rattle.core.proofs.slots.Lent.{pointer_in, pointer_out}
use Rattle.lasso_parts.specs.contracts.bucket.block.ByteBlock.{the_row as Places}
use Rattle.lasso_parts.specs.contracts.bucket.block.ByteBlock.address as f
use Rattle.lasso_parts.proofs.bucket.block.ByteBlock.address.Statement.{statement}
use Rattle.lasso_parts.proofs.bucket.block.ByteBlock.address.Code as code

abbrev stayed : Stays f.ended.signature.params f.ended.kept
stayed = (stay_dropped (RefOf (0 ∷ []) tt (plain (λ _. Places)) (λ _. tt)) yes, (stay_dropped (plain (λ _. usize)) yes, tt))

pub address_spec : {M : Type 1} → statement M
address_spec 𝓤 𝓛 𝓜 𝓡 wired =
    let c = f.clauses 𝓛 𝓜.mem 𝓡.returns in let W = walk_of 𝓛 f.ended stayed c in let 𝓣 = tables 𝓤 𝓛.H 𝓜 𝓡 𝓡.env in
    proved 𝓛 f.ended stayed c 𝓜 𝓡 (Goes-dropped 𝓛 1 (RefOf (0 ∷ []) tt (plain (λ _. Places)) (λ _. tt)) yes (λ κs x w. refl), (Goes-dropped 𝓛 1 (plain (λ _. usize)) yes (λ κs x w. refl), tt))
    f.Key.name code.function (code.unfolded 𝓤 𝓛.H 𝓜 𝓡 wired)
    (λ κs. (shr_vals, (uint_vals w64, tt))) (λ κs. (shr_Tells (named 0) κs.0 Places, (uint_Tells w64, tt))) (λ κs qs bounds a _ are.
    let κ : Lft = κs.0 in let q : Share = qs.0 in let row : Slots ℕ = a.0.now in let start : ℕ = a.1.0 in
    let rb : ℕ = a.0.ref_ptr.0 in let ro : ℕ = a.0.ref_ptr.1 in
    let y : W.Ghost = ((κs, qs, bounds, a, (shr_vals a.0, (uint_vals w64 start, tt))), tt) in
    qed 𝓛 (((‵ (flft κ q) ⊛ ‵ ftrue) ⊛ ‵ (owns (types_at f.ended.signature.params κs) a y.0.4)) ∷ raw (fact 𝓤 (start ≤ slots_len row)) ∷ []) ∵
    keep ! (0 ∷ []) $ split ! $ split ! $ move ! (2 ∷ []) $ fsplit ! $ fsplit ! $ let_go ! $ unhide ! $ fpick ! (λ x. let d = x.0 in fsplit ! $ fsplit ! $
    fsplit ! $ fsplit ! $
    -- [a `&` to the pointer; ..; the token]
    let b : ℕ = block_of d.ptr in let o : ℕ = count_of d.ptr in
    keep ! (0 ∷ 6 ∷ []) $ hide ! $
    -- [a `&` to the pointer; the token]
    enter ! _ _ _ _ _ $ alloc_all ! (λ l. pass_all ! refl ((tt, tt), ((tt, record { fits = are.1.0.1 }), tt)) $
    first ! $ blocks ! $ pointer_in ! tt d.ptr b o x.1.1.1 rb (ro + 0) (λ q'.
    sets ! (of_opd ! (load ! (through ! refl (fld ! refl (stop !))) (look ! 0 refl))) refl (tt, tt) $
    pointer_out ! tt d.ptr b o x.1.1.1 rb (ro + 0) $
    sets_last ! (bin ! (get ! refl) (get ! refl) tt) refl (tt, tt) $
    exec ! 𝓣.C 𝓣.Λ (env code.Mir.locals l) code.Mir.t-2 (at_ret _ (W.post y)) $
    sets ! (of_opd ! (get ! refl)) refl (tt, tt) $
    feq_i ! (List Val) (vptr b (start + o) ∷ []) (vptr b (start + o) ∷ []) refl $
    returns ! (look_at ! 0 refl) $ free_all ! refl $
    suffices ! _ (ends_at 𝓛 f.ended stayed c y (vptr b (start + o)) (block_ptr b (start + o)) (tt, (tt, tt)) (tt, (tt, tt))) $
    let begins : block_ptr b o ≡ slots_ptr row = sym x.1.1.1 ∙ x.1.1.0 ∙ ap slots_ptr x.1.0 in
    let swapped : start + o ≡ o + start = omega arith in
    says ! (ap (block_ptr b) swapped ∙ ap (λ (p : Ptr). p +ₚ start) begins, refl) $
    nothing ! $ nothing ! $ fjoin ! $ nothing ! $ fjoin ! $ nothing ! $ move ! (3 ∷ 0 ∷ []) $ join ! $ done !))))
