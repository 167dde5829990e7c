-- `deallocate` makes room of the places, and gives it back with what the right owns.
--
-- The row of the places gives up its pointer, its count and the places, whatever they hold, and any row of
-- places is room for that number of bytes. The `requires` says that the right is for this very room, by this
-- very allocator: so its token is the one that `deallocate` asks for.
use Rattle.std.proofs.Common.{◌≡◌, ℕ, ◌*◌, T, List, [], ◌∷◌, ◌++◌, length, refl, sym, ap, subst, ◌∙◌, lit<, arith}
use base.Fml.{Lft, Share, ftrue, froom, flft, Incl-trans}
use mir.Syntax.{Fn, Args, a_type, dcons, dnil, ty_unit}
use mir.MapTy.{inst_fn}
use mir.Val.{Val, WT, has_ty, vptr, vunit, vstruct, of_list}
use prog.Capped.{capped_is}
use prog.Wp.{WpFn}
use contract.BorrowLft.{◌⊑◌}
use contract.Monad.{fact}
use contract.Running.{tables}
use types.Kit.{Goal, ‵, raw, ◌⊛◌, given, later, prop, at_ret, ◌$◌, ◌∵◌, !, qed, by, move, keep, use1, use3, split, join, learn, rewrite, regoal, fsplit, fjoin, fpick, feq_l, feq_i, await}
use types.Part.{whole, sub}
use types.Run.{stop, fld, lit, unit_lit, of_opd, no_more, and_then, first, blocks, exec, returns, enter}
use types.ByLocal.{alloc_all, pass_all, free_all, look_at, get, get_in, sets, lands_as, lands_last, env}
use denote.Builtin.{u8, RefOf}
use denote.Exit.{yes, no}
use denote.Param.{param, bounded}
use denote.RattleType.{RattleType, owns}
use denote.RawPtr.{Ptr, block_ptr, ptr_val}
use denote.Shadow.{pure_l}
use denote.Signature.{plain, types_at}
use denote.Steps.{heard, nothing}
use denote.Triple.Call.{calls_at, calls_at_last}
use denote.Triple.Table.{framed}
use denote.Triple.Walked.{Stays, stay_dropped, Goes-dropped, walk_of}
use Rattle.std.proofs.raw_atomic.Walks.{proved_at, leaves}
use Rattle.core.specs.Mem.Slots.Ownership.{slots}
use Rattle.core.specs.declared.slots.Slots.{Slots}
use Rattle.core.proofs.alloc.Calls.{Al, Goes-blank, Gives, at_gives, Gives-goes, Gives-Gives}
use Rattle.core.proofs.alloc.Shapes.{after}
use Rattle.core.proofs.slots.Opens.{row_val, row_had, row_made}
use Rattle.core.proofs.slots.Places.{to_room}
use Rattle.core.proofs.slots.Slots.into_raw_parts.Met as callee
use Rattle.std_alloc.proofs.Pairs.{pair_val}
use Rattle.lasso_parts.specs.Block.{bytes_type}
use Rattle.lasso_parts.specs.contracts.bucket.block.ByteBlock as block
use Rattle.lasso_parts.specs.contracts.bucket.block.ByteBlockRight as block_right
use Rattle.lasso_parts.specs.contracts.bucket.block.deallocate as f
use Rattle.lasso_parts.proofs.RowCalls.{byte, byte_laws, Row, Parts, parting_of, parts_goes, parts_gives}
use Rattle.lasso_parts.proofs.EmptyStructs.{plainly, mark_told}
use Rattle.lasso_parts.proofs.bucket.block.deallocate.Statement.{statement}
use Rattle.lasso_parts.proofs.bucket.block.deallocate.Code as code

pub deallocate_spec : {M : Type 1} → statement M
deallocate_spec 𝓤 𝓛 𝓜 𝓡 wired A laws heap methods drops met dropped =
    let H = 𝓛.H in let 𝓣 = tables 𝓤 H 𝓜 𝓡 𝓡.env in
    let ended = f.ended A heap methods drops in let c = f.clauses A heap methods drops 𝓛 𝓜.mem 𝓡.returns in
    let args : Args = bounded (a_type ∷ []) (A, tt) (dcons methods (dcons drops dnil)) in let function : Fn = inst_fn args code.function in
    let P : RattleType = param 0 A in let Dr : RattleType = block_right.the_row P heap in let Z : Al = record { row = A; laws = laws; g = heap; d = methods; drops = drops } in
    let stayed : Stays ended.signature.params ended.kept = (stay_dropped (RefOf (0 ∷ []) tt (plain (λ _. P)) (λ _. tt)) yes, (stay_dropped (plain (λ _. block.the_row)) yes, (stay_dropped (plain (λ _. Dr)) no, tt))) in
    let W = walk_of 𝓛 ended stayed c in
    proved_at 𝓛 ended stayed c 𝓜 𝓡 (
      Goes-dropped 𝓛 2 (RefOf (0 ∷ []) tt (plain (λ _. P)) (λ _. tt)) yes (λ κs x w. refl),
      (Goes-blank 𝓛 2 (plain (λ _. block.the_row)) yes (λ κs x w. tt), (Goes-blank 𝓛 2 (plain (λ _. Dr)) no (λ κs x w. tt), tt)),
    )
    (f.Key.name args) function (code.unfolded 𝓤 H 𝓜 𝓡 wired (A, tt) methods drops) (λ y _.
    let κs = y.0.0 in let qs = y.0.1 in let a = y.0.3 in let vss = y.0.4 in
    let κ : Lft = κs.0 in let q : Share = qs.0 in let address : ℕ × ℕ = a.0.ref_ptr in let alloc : A.Denot = a.0.now in
    let row : Slots ℕ = a.1.0 in let right = a.1.1.0 in let n : ℕ = row.len in
    let Asked : Type 0 = (right.at ≡ row.ptr) × (right.len ≡ n) × (right.alloc ≡ alloc) in
    let Run : List Val → Goal 𝓤 H = λ us. prop (WpFn 𝓤 H 𝓣.C 𝓣.Λ function us (W.post y)) in
    qed 𝓛 (((‵ (flft κ q) ⊛ ‵ (flft κs.1.0 qs.1.0) ⊛ ‵ ftrue) ⊛ ‵ (owns (types_at ended.signature.params κs) a vss)) ∷ (raw (fact 𝓤 (κs.1.0 ⊑ A.lives)) ⊛ raw (fact 𝓤 Asked)) ∷ []) ∵
    move ! (1 ∷ []) $ split ! $ heard ! _ (λ lives. heard ! Asked (λ asked. split ! $ split ! $ move ! (2 ∷ []) $
    fsplit ! $ fsplit ! $ feq_l ! (λ is_ref. move ! (1 ∷ []) $ fsplit ! $ move ! (1 ∷ []) $ fsplit ! $ fsplit ! $ pure_l ! ((plainly (plainly [] ∷ [])).own_val (tt, tt) vss.1.1.0) (λ mark.
    -- [the allocator's token; nothing; what the places own; a `&` to the allocator; its token; the other token]
    move ! (2 ∷ []) $ fpick ! (λ x. fsplit ! $ fsplit ! $ fpick ! (λ us. fsplit ! $ feq_l ! (λ is_struct. fsplit ! $ feq_l ! (λ is_pointer. fsplit ! $
    rewrite ! 0 (λ (r : Slots ℕ). ‵ (Row.own_val r us.1.0)) x.1.0 refl $ row_had byte ! row us.1.0 (λ b o at is_row fits small. row_made byte ! row b o at fits small $
    let start : x.0.ptr ≡ block_ptr b o = x.1.1.0 ∙ ap (λ (r : Slots ℕ). r.ptr) x.1.0 ∙ at in let words : Val = pair_val (vptr b o) (row_val b o n) in let number : WT (row_val b o n) = (tt, (record { fits = fits }, tt)) in
    let are_places : vss.1.0 ≡ words ∷ [] = is_struct ∙ (λ i. vstruct (of_list ((is_pointer ∙ ap (λ (p : Ptr). ptr_val p ∷ []) start) i ++ (is_row i ++ []))) ∷ []) in
    keep ! (0 ∷ 4 ∷ 6 ∷ 7 ∷ 8 ∷ []) $ rewrite ! 1 (λ (u : A.Denot × ℕ × Ptr). ‵ (heap.dealloc_token u.0 (bytes_type u.1) u.2)) (λ i. (asked.2 i, asked.1 i, (asked.0 ∙ at) i)) refl $
    regoal ! Run (λ i. is_ref i ++ (are_places i ++ (mark_told vss.1.1.0 mark i ++ []))) refl $
    -- [the row; the allocator's token; a `&` to the allocator; its token; the other token]
    enter ! _ _ _ _ _ $ alloc_all ! (λ l. pass_all ! refl ((tt, tt), ((tt, (tt, (number, tt))), ((tt, (tt, tt)), tt))) $ let En = env function.locals l in
    sets ! (of_opd ! (get_in ! (fld ! refl (stop !)) (sub ! 1 refl (whole !)))) refl (tt, number) $ first ! $ blocks ! $ sets ! (of_opd ! (get ! refl)) refl (tt, number) $
    use1 𝓛 (raw ((Parts 𝓛 𝓜.mem 𝓡.returns).pre (parting_of 𝓛 𝓜.mem 𝓡.returns row b o))) (parts_goes 𝓛 𝓜.mem 𝓡.returns row b o) $
    calls_at ! (framed 𝓤 H 𝓜 𝓣) (Parts 𝓛 𝓜.mem 𝓡.returns) (callee.met 𝓤 𝓛 𝓜 𝓡 (code.calls-core::slots::Slots::into_raw_parts 𝓡.env wired) u8 byte_laws) (parting_of 𝓛 𝓜.mem 𝓡.returns row b o)
    (and_then ! (get ! refl) (no_more !)) (λ w.
    use1 𝓛 (later (given (w ≡ row_val b o n) (‵ (slots u8 (block_ptr b o) row.items row.filled)))) (parts_gives 𝓛 𝓜.mem 𝓡.returns row b o at w) $ await ! tt $ learn ! (λ is_words.
    lands_as ! is_words refl (tt, number) $
    sets ! (of_opd ! (get_in ! (fld ! refl (stop !)) (sub ! 0 refl (whole !)))) refl (tt, tt) $
    sets ! (of_opd ! (get_in ! (fld ! refl (stop !)) (sub ! 1 refl (whole !)))) refl (tt, record { fits = fits }) $
    use1 𝓛 (‵ (froom (bytes_type (length row.items)) b o)) (to_room byte 𝓛 b row.items row.filled o (sym row.ok.1 ∙ row.ok.0)) $ rewrite ! 0 (λ (k : ℕ). ‵ (froom (bytes_type k) b o)) (sym row.ok.0) refl $
    -- [room for the bytes; the allocator's token; a `&` to the allocator; its token; the other token]
    move ! (2 ∷ 3 ∷ []) $ join ! $ move ! (1 ∷ 2 ∷ 0 ∷ []) $
    let gives = at_gives Z 𝓛 𝓜.mem 𝓡.returns κ q address alloc b o n 1 (bytes_type n) in
    use3 𝓛 (raw ((Gives Z 𝓛 𝓜.mem 𝓡.returns).pre gives))
    (Gives-goes Z 𝓛 𝓜.mem 𝓡.returns κ q address alloc (Incl-trans y.0.2.0 lives) b o n 1 (bytes_type n) (capped_is (n * 1) (omega arith) ∙ omega arith) refl fits (lit< tt)) $
    calls_at_last ! (framed 𝓤 H 𝓜 𝓣) (Gives Z 𝓛 𝓜.mem 𝓡.returns) (met.deallocate drops) gives (and_then ! (get ! refl) (and_then ! (get ! refl) (and_then ! (get ! refl) (and_then ! (lit ! tt) (no_more !))))) (λ v.
    use1 𝓛 (later (given (v ≡ vunit) (‵ (flft κ q)))) (Gives-Gives Z 𝓛 𝓜.mem 𝓡.returns κ q address alloc b o n 1 (bytes_type n) v) $ await ! tt $ learn ! (λ is_unit.
    lands_last ! refl (subst (λ (u : Val). T (has_ty ty_unit u) × WT u) (sym is_unit) (tt, tt)) $
    exec ! 𝓣.C 𝓣.Λ En (after 2 function.body) (at_ret En (W.post y)) $ sets ! (of_opd ! (unit_lit !)) refl (tt, tt) $
    returns ! (look_at ! 0 refl) $ free_all ! refl $
    -- [the token of the `&`; the other token]
    join ! $ feq_i ! (List Val) (vunit ∷ []) (vunit ∷ []) refl $ nothing ! $ nothing ! $ nothing ! $ fjoin ! $ nothing ! $ fjoin ! $ nothing ! $ fjoin ! $ move ! (3 ∷ 0 ∷ 2 ∷ 1 ∷ []) $
    by ! (leaves 𝓛 ended stayed c y vunit tt (tt, (tt, (tt, tt))) (tt, (tt, (tt, tt)))))))))))))))))))
