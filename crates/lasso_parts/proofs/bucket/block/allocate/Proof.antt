-- `allocate` asks the allocator for the bytes, and makes places of them and the right to a block of the right to free them.
--
-- The allocator returns room for the bytes at some address, and its token for that block. Room for bytes
-- is a row of empty places, which `from_raw_parts` takes; the values that it asks for the empty places are
-- zeros that nobody can read. The token is what the right owns. Where it refuses, so does `allocate`.
use Rattle.std.proofs.Common.{◌≡◌, ℕ, ◌*◌, ◌^◌, ◌<◌, Bool, true, false, List, [], ◌∷◌, length, replicate, refl, sym, subst, ◌∙◌, lit<, arith, w64}
use lib.ListN.{length-replicate}
use base.Fml.{Lft, Share, ftrue, fsep, froom, flft, Incl-trans}
use mir.Syntax.{Ty, Fn, Args, Body, a_type, dcons, dnil, named}
use mir.MapTy.{inst_fn}
use mir.Val.{Val, WT, vptr, vcons, vnil}
use prog.Capped.{capped_is}
use prog.Wp.{after_seq, at_return, Wp}
use contract.BorrowLft.{◌⊑◌}
use contract.Monad.{fact}
use contract.Running.{tables}
use types.Kit.{Post, any_q, ‵, raw, ◌⊛◌, some, given, later, at_ret, ◌$◌, ◌∵◌, !, qed, move, keep, drop as let_go, use0, use1, use2, split, join, pick, learn, rewrite, fsplit, fjoin, fpack, feq_i, suffices, await, done}
use types.Match.{live, vrt, in_variant}
use types.Part.{whole, agg}
use types.Run.{stop, fld, lit, of_opd, no_more, and_then, first, blocks, switches_on, exec, returns, enter}
use types.ByLocal.{alloc_all, pass_all, free_all, look_at, get, get_in, get_tag, is, sets, sets_last, lands_as, lands_last, env}
use denote.Builtin.{u8, usize, RawPtr, RefOf}
use denote.Exit.{yes}
use denote.Param.{param, bounded}
use denote.Plain.{uint_vals, uint_Tells}
use denote.RattleType.{RattleType, owns}
use denote.RawPtr.{Ptr, block_ptr}
use denote.Ref.{shr_vals, shr_Tells}
use denote.Signature.{plain, types_at}
use denote.Steps.{heard, nothing}
use denote.Struct.Tuple.{Tuple}
use denote.Triple.Call.{calls_at, calls_at_last}
use denote.Triple.Table.{framed}
use denote.Triple.Walked.{Stays, stay_dropped, Goes-dropped, walk_of, says, ends_at}
use Rattle.std.proofs.raw_atomic.Walks.{proved}
use Rattle.core.specs.Mem.Slots.Ownership.{slots}
use Rattle.core.specs.declared.slots.Slots.{Slots}
use Rattle.core.specs.declared.result.Result.TheVariants.{Ok, Err}
use Rattle.core.specs.contracts.result.Result as result
use Rattle.core.specs.contracts.alloc.AllocError as error
use Rattle.core.proofs.alloc.Calls.{Al, Takes, at_takes, Answered, Answer-typed, Takes-goes, Takes-gives, answers}
use Rattle.core.proofs.alloc.Shapes.{after, head, arm_body}
use Rattle.core.proofs.slots.Opens.{row_val}
use Rattle.core.proofs.slots.Places.{of_room}
use Rattle.core.proofs.slots.Slots.from_raw_parts.Met as callee
use Rattle.std_alloc.proofs.Pairs.{pair_val, pair_of}
use Rattle.std_alloc.proofs.ResultValues.{ok_of, err_of}
use Rattle.lasso_parts.specs.Block.{LeadsToBlock, bytes_type}
use Rattle.lasso_parts.specs.contracts.bucket.block.ByteBlock as block
use Rattle.lasso_parts.specs.contracts.bucket.block.ByteBlock.TheInside as inside
use Rattle.lasso_parts.specs.contracts.bucket.block.ByteBlockRight as block_right
use Rattle.lasso_parts.specs.contracts.bucket.block.allocate as f
use Rattle.lasso_parts.proofs.RowCalls.{byte, byte_laws, Good, Row, Makes, making_of, IsMade, makes_goes, makes_gives}
use Rattle.lasso_parts.proofs.EmptyStructs.{plainly, none, unit_made, mark_val, mark_made}
use Rattle.lasso_parts.proofs.bucket.block.allocate.Statement.{statement}
use Rattle.lasso_parts.proofs.bucket.block.allocate.Code as code

pub allocate_spec : {M : Type 1} → statement M
allocate_spec 𝓤 𝓛 𝓜 𝓡 wired A laws heap methods drops met dropped =
    let H = 𝓛.H in let 𝓣 = tables 𝓤 H 𝓜 𝓡 𝓡.env in
    let ended = f.ended A heap methods drops in let c = f.clauses A heap methods drops 𝓛 𝓜.mem 𝓡.returns in
    let args : Args = bounded (a_type ∷ []) (A, tt) (dcons methods (dcons drops dnil)) in let function : Fn = inst_fn args code.function in
    let P : RattleType = param 0 A in let Z : Al = record { row = A; laws = laws; g = heap; d = methods; drops = drops } in
    let stayed : Stays ended.signature.params ended.kept = (stay_dropped (RefOf (0 ∷ []) tt (plain (λ _. P)) (λ _. tt)) yes, (stay_dropped (plain (λ _. usize)) yes, tt)) in
    let W = walk_of 𝓛 ended stayed c in
    proved 𝓛 ended stayed c 𝓜 𝓡 (Goes-dropped 𝓛 2 (RefOf (0 ∷ []) tt (plain (λ _. P)) (λ _. tt)) yes (λ κs x w. refl), (Goes-dropped 𝓛 2 (plain (λ _. usize)) yes (λ κs x w. refl), tt))
    (f.Key.name args) function (code.unfolded 𝓤 H 𝓜 𝓡 wired (A, tt) methods drops)
    (λ κs. (shr_vals, (uint_vals w64, tt))) (λ κs. (shr_Tells (named 0) κs.0 P, (uint_Tells w64, tt))) (λ κs qs bounds a _ are.
    let κ : Lft = κs.0 in let q : Share = qs.0 in let address : ℕ × ℕ = a.0.ref_ptr in let alloc : A.Denot = a.0.now in let n : ℕ = a.1.0 in let fits : n < 2 ^ 64 = are.1.0.1 in
    let y : W.Ghost = ((κs, qs, bounds, a, (shr_vals a.0, (uint_vals w64 n, tt))), tt) in
    let τ : Ty = bytes_type n in let Dr : RattleType = block_right.the_row P heap in let Pair : RattleType = Tuple (block.the_row ∷ Dr ∷ []) in
    let Out : RattleType = result.the_row Pair error.the_row in
    let both : Body = head (after 1 function.body) in
    qed 𝓛 (((‵ (flft κ q) ⊛ ‵ (flft κs.1.0 qs.1.0) ⊛ ‵ ftrue) ⊛ ‵ (owns (types_at ended.signature.params κs) a y.0.4)) ∷ (raw (fact 𝓤 (κs.1.0 ⊑ A.lives)) ⊛ raw (fact 𝓤 (n < 2 ^ 63))) ∷ []) ∵
    move ! (1 ∷ []) $ split ! $ heard ! _ (λ lives. heard ! _ (λ small. split ! $ split ! $ move ! (2 ∷ []) $ fsplit ! $ fsplit ! $ let_go ! $ keep ! (0 ∷ 2 ∷ 3 ∷ []) $
    -- [a `&` to the allocator; its token; the other token]
    enter ! _ _ _ _ _ $ alloc_all ! (λ l. pass_all ! refl ((tt, tt), ((tt, record { fits = fits }), tt)) $
    let En = env function.locals l in
    let Then : Post 𝓤 H = any_q (after_seq 𝓤 H (Wp 𝓤 H 𝓣.C 𝓣.Λ En (after 2 function.body) (at_return 𝓤 H En (W.post y))) (at_return 𝓤 H En (W.post y))) in
    let asks = at_takes Z 𝓛 𝓜.mem 𝓡.returns κ q address alloc n 1 τ in
    use2 𝓛 (raw ((Takes Z 𝓛 𝓜.mem 𝓡.returns).pre asks)) (Takes-goes Z 𝓛 𝓜.mem 𝓡.returns κ q address alloc (Incl-trans bounds.0 lives) n 1 τ (capped_is (n * 1) (omega arith) ∙ omega arith) refl fits (lit< tt)) $
    calls_at ! (framed 𝓤 H 𝓜 𝓣) (Takes Z 𝓛 𝓜.mem 𝓡.returns) (met.allocate drops) asks (and_then ! (get ! refl) (and_then ! (get ! refl) (and_then ! (lit ! tt) (no_more !)))) (λ v.
    use1 𝓛 (later (raw (Answered Z 𝓛 𝓜.mem 𝓡.returns alloc τ v) ⊛ ‵ (flft κ q))) (Takes-gives Z 𝓛 𝓜.mem 𝓡.returns κ q address alloc n 1 τ v) $ await ! tt $ split ! $
    answers Z ! 𝓜.mem 𝓡.returns alloc τ v
    (λ b o is_block.
    -- [room for the bytes; the allocator's token; the token of the `&`; the other token]
    let zeros : List ℕ = replicate n 0 in let marks : List Bool = replicate (length zeros) false in
    let long : n ≡ length zeros = sym (length-replicate n 0) in let counted : n ≡ length marks = long ∙ sym (length-replicate (length zeros) false) in
    let start : Ptr = block_ptr b o in let number : WT (row_val b o n) = (tt, (record { fits = fits }, tt)) in
    lands_as ! is_block refl (Answer-typed true b o) $ first ! $ switches_on ! (get_tag ! (vrt ! refl (fld ! refl (stop !))) (whole !)) $ exec ! 𝓣.C 𝓣.Λ En (arm_body 0 both) Then $
    sets ! (of_opd ! (get_in ! (vrt ! refl (fld ! refl (stop !))) (in_variant ! 0 0 refl refl (whole !)))) refl (tt, tt) $
    rewrite ! 0 (λ (k : ℕ). ‵ (froom (bytes_type k) b o)) long refl $ use1 𝓛 (‵ (slots u8 start zeros marks)) (of_room byte 𝓛 b zeros o) $
    first ! $ blocks ! $ use1 𝓛 (raw ((Makes 𝓛 𝓜.mem 𝓡.returns).pre (making_of 𝓛 𝓜.mem 𝓡.returns b o n zeros marks))) (makes_goes 𝓛 𝓜.mem 𝓡.returns b o n zeros marks long counted fits (omega arith)) $
    calls_at_last ! (framed 𝓤 H 𝓜 𝓣) (Makes 𝓛 𝓜.mem 𝓡.returns) (callee.met 𝓤 𝓛 𝓜 𝓡 (code.calls-core::slots::Slots::from_raw_parts 𝓡.env wired) u8 byte_laws) (making_of 𝓛 𝓜.mem 𝓡.returns b o n zeros marks)
    (and_then ! (get ! refl) (and_then ! (get ! refl) (no_more !))) (λ w.
    use1 𝓛 (later (some (λ (r : Slots ℕ). given ((w ≡ row_val b o n) × IsMade 𝓛 𝓜.mem 𝓡.returns b o n zeros marks r) (‵ (Row.own_val r (row_val b o n ∷ [])))))) (makes_gives 𝓛 𝓜.mem 𝓡.returns b o n zeros marks w) $
    await ! tt $ pick ! (λ row. learn ! (λ made.
    -- [the row; the allocator's token; the token of the `&`; the other token]
    let at : start ≡ row.ptr = sym made.1.0 in
    let fields : (inside.the_row).Denot = record { ptr = start; slots = row } in
    let right : Dr.Denot = record { of = record {}; at = start; len = n; alloc = alloc } in
    let words : Val = pair_val (vptr b o) (row_val b o n) in let all : Val = pair_val words mark_val in
    let fine : WT (live 0 (vcons all vnil)) = (record { fits = lit< tt }, (((tt, (number, tt)), ((tt, tt), tt)), tt)) in
    lands_last ! refl (subst (Good Row) (sym made.0) (tt, number)) $ exec ! 𝓣.C 𝓣.Λ En (after 2 (arm_body 0 both)) Then $
    sets ! (is ! (of_opd ! (get ! refl)) made.0) refl (tt, number) $
    sets ! (agg ! (no_more !)) refl (tt, tt) $
    sets ! (of_opd ! (get ! refl)) refl (tt, number) $
    sets ! (agg ! (and_then ! (get ! refl) (and_then ! (get ! refl) (no_more !)))) refl (tt, (tt, (number, tt))) $
    sets ! (agg ! (and_then ! (get ! refl) (no_more !))) refl (tt, (tt, tt)) $
    sets ! (agg ! (and_then ! (get ! refl) (and_then ! (get ! refl) (no_more !)))) refl (tt, ((tt, (number, tt)), ((tt, tt), tt))) $
    sets_last ! (agg ! (and_then ! (lit ! tt) (and_then ! (get ! refl) (no_more !)))) refl (tt, fine) $
    exec ! 𝓣.C 𝓣.Λ En (after 2 function.body) (at_ret En (W.post y)) $ sets ! (of_opd ! (get ! refl)) refl (tt, fine) $
    returns ! (look_at ! 0 refl) $ free_all ! refl $
    feq_i ! (List Val) (vptr b o ∷ []) (vptr b o ∷ []) refl $ use2 𝓛 (‵ ((Tuple (RawPtr ∷ Row ∷ [])).own_val (start, row) (words ∷ []))) (pair_of 𝓛 RawPtr Row start row (vptr b o) (row_val b o n)) $
    nothing ! $ move ! (1 ∷ 0 ∷ []) $ fjoin ! $ nothing ! $ move ! (1 ∷ 0 ∷ []) $ fjoin ! $
    fpack ! ((v : (inside.the_row).Denot) × ((v.slots ≡ row) × ((v.ptr ≡ v.slots.ptr) × LeadsToBlock v.ptr))) (λ v. fsep ((inside.the_row).own_val v.0 (words ∷ [])) ftrue) (fields, (refl, (at, refl))) $ move ! (1 ∷ []) $
    use0 𝓛 (‵ ((plainly (plainly [] ∷ [])).own_val (tt, tt) (mark_val ∷ []))) (mark_made 𝓛) $ fjoin ! $ move ! (1 ∷ 0 ∷ []) $
    use2 𝓛 (‵ (Pair.own_val (row, right) (all ∷ []))) (pair_of 𝓛 block.the_row Dr row right words mark_val) $
    use1 𝓛 (‵ (Out.own_val (Ok (row, right)) (live 0 (vcons all vnil) ∷ []))) (ok_of 𝓛 Pair error.the_row (row, right) all) $
    suffices ! _ (ends_at 𝓛 ended stayed c y (live 0 (vcons all vnil)) (Ok (row, right)) (tt, (tt, tt)) (tt, (tt, tt))) $ says ! (made.1.1, at, refl, refl) $
    move ! (1 ∷ 2 ∷ []) $ join ! $ nothing ! $ nothing ! $ fjoin ! $ nothing ! $ fjoin ! $ move ! (1 ∷ 0 ∷ []) $ done !))))
    (λ is_refusal.
    -- [the token of the `&`; the other token]
    let fine : WT (live 1 (vcons none vnil)) = (record { fits = lit< tt }, (tt, tt)) in
    lands_as ! is_refusal refl (Answer-typed false 0 0) $ first ! $ switches_on ! (get_tag ! (vrt ! refl (fld ! refl (stop !))) (whole !)) $ exec ! 𝓣.C 𝓣.Λ En (arm_body 1 both) Then $
    sets ! (of_opd ! (get_in ! (vrt ! refl (fld ! refl (stop !))) (in_variant ! 1 0 refl refl (whole !)))) refl (tt, tt) $
    sets_last ! (agg ! (and_then ! (lit ! tt) (and_then ! (get ! refl) (no_more !)))) refl (tt, fine) $
    exec ! 𝓣.C 𝓣.Λ En (after 2 function.body) (at_ret En (W.post y)) $ sets ! (of_opd ! (get ! refl)) refl (tt, fine) $
    returns ! (look_at ! 0 refl) $ free_all ! refl $
    use0 𝓛 (‵ (error.the_row.own_val (record {}) (none ∷ []))) (unit_made 𝓛) $
    use1 𝓛 (‵ (Out.own_val (Err (record {})) (live 1 (vcons none vnil) ∷ []))) (err_of 𝓛 Pair error.the_row (record {}) none) $
    suffices ! _ (ends_at 𝓛 ended stayed c y (live 1 (vcons none vnil)) (Err (record {})) (tt, (tt, tt)) (tt, (tt, tt))) $ says ! tt $
    move ! (1 ∷ 2 ∷ []) $ join ! $ nothing ! $ nothing ! $ fjoin ! $ nothing ! $ fjoin ! $ move ! (1 ∷ 0 ∷ []) $ done !))))))
