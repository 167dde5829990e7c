-- `read` makes a slice of the places from `start` on.
--
-- A `&` to the places is a `&` to their pointer and one to the row of slots, which lends a `&` to each byte
-- that the row holds. The pointer is where the row begins, so the pointer moved by `start` is where the run
-- begins, and the row lends a `&` to each byte of the run: that is what a slice of the run holds.
use Rattle.std.proofs.Common.{◌≡◌, ℕ, ◌+◌, ◌-◌, ◌*◌, ◌^◌, ◌≤◌, List, [], ◌∷◌, length, take, drop, length-take, length-drop, refl, sym, ap, subst, ◌∙◌, arith, w64}
use base.Fml.{Lft, Share, ftrue, flft}
use mir.Syntax.{named}
use mir.Val.{Val, WT}
use types.Kit.{‵, raw, ◌⊛◌, at_ret, ◌$◌, ◌∵◌, !, qed, move, keep, split, join, fsplit, fjoin, fpick, feq_i, flt_l, flt_i, use1, rewrite, suffices, drop as let_go, done}
use types.Part.{agg}
use types.Run.{look, stop, fld, load, of_opd, bin, and_then, no_more, first, blocks, exec, returns, enter}
use types.ByLocal.{alloc_all, pass_all, free_all, look_at, get, through, sets, sets_last, env}
use contract.Monad.{fact}
use contract.Running.{tables}
use denote.Builtin.{u8, usize, RefOf}
use denote.Exit.{yes}
use denote.Opens.{hide, unhide}
use denote.Plain.{uint_vals, uint_Tells}
use denote.RattleType.{owns}
use denote.RawPtr.{Ptr, block_ptr, block_of, count_of}
use denote.Ref.{shr_vals, shr_Tells}
use denote.Signature.{plain, types_at}
use denote.Slice.{slice_val, elements_shared}
use denote.Steps.{heard, nothing}
use denote.Triple.Walked.{Stays, stay_dropped, Goes-dropped, walk_of, says, ends_at}
use Rattle.std.proofs.raw_atomic.Walks.{proved}
use Rattle.std.specs.Prelude.{slice_range}
use Rattle.core.specs.Mem.Slots.Ownership.{slots_lent}
use Rattle.core.specs.declared.slots.Slots.{Slots}
use Rattle.core.proofs.slots.Lent.{pointer_in, pointer_out}
use Rattle.lasso_parts.specs.Block.{AreFilled}
use Rattle.lasso_parts.specs.contracts.bucket.block.ByteBlock.{the_row as Places}
use Rattle.lasso_parts.specs.contracts.bucket.block.ByteBlock.read as f
use Rattle.lasso_parts.proofs.PlacesLent.{run_lent}
use Rattle.lasso_parts.proofs.bucket.block.ByteBlock.read.Statement.{statement}
use Rattle.lasso_parts.proofs.bucket.block.ByteBlock.read.Code as code

abbrev stayed : Stays f.ended.signature.params f.ended.kept
stayed = (stay_dropped (RefOf (0 ∷ []) tt (plain (λ _. Places)) (λ _. tt)) yes, (stay_dropped (plain (λ _. usize)) yes, (stay_dropped (plain (λ _. usize)) yes, tt)))

pub read_spec : {M : Type 1} → statement M
read_spec 𝓤 𝓛 𝓜 𝓡 wired =
    let c = f.clauses 𝓛 𝓜.mem 𝓡.returns in let W = walk_of 𝓛 f.ended stayed c in let 𝓣 = tables 𝓤 𝓛.H 𝓜 𝓡 𝓡.env in
    let number = Goes-dropped 𝓛 1 (plain (λ _. usize)) yes (λ κs x w. refl) in
    proved 𝓛 f.ended stayed c 𝓜 𝓡 (Goes-dropped 𝓛 1 (RefOf (0 ∷ []) tt (plain (λ _. Places)) (λ _. tt)) yes (λ κs x w. refl), (number, (number, tt)))
    f.Key.name code.function (code.unfolded 𝓤 𝓛.H 𝓜 𝓡 wired)
    (λ κs. (shr_vals, (uint_vals w64, (uint_vals w64, tt)))) (λ κs. (shr_Tells (named 0) κs.0 Places, (uint_Tells w64, (uint_Tells w64, tt)))) (λ κs qs bounds a _ are.
    let κ : Lft = κs.0 in let q : Share = qs.0 in let row : Slots ℕ = a.0.now in let start : ℕ = a.1.0 in let len : ℕ = a.1.1.0 in
    let rb : ℕ = a.0.ref_ptr.0 in let ro : ℕ = a.0.ref_ptr.1 in
    let y : W.Ghost = ((κs, qs, bounds, a, (shr_vals a.0, (uint_vals w64 start, (uint_vals w64 len, tt)))), tt) in
    qed 𝓛 (((‵ (flft κ q) ⊛ ‵ ftrue) ⊛ ‵ (owns (types_at f.ended.signature.params κs) a y.0.4)) ∷ raw (fact 𝓤 (AreFilled row start (start + len))) ∷ []) ∵
    move ! (1 ∷ []) $ heard ! _ (λ asked. split ! $ split ! $ move ! (2 ∷ []) $ fsplit ! $ fsplit ! $ let_go ! $ unhide ! $ fpick ! (λ x. let d = x.0 in fsplit ! $ fsplit ! $
    -- [a `&` to the two fields; nothing; nothing; the numbers; the token]
    fsplit ! $ fsplit ! $ move ! (1 ∷ []) $ fsplit ! $ fsplit ! $ move ! (1 ∷ []) $ fsplit ! $ flt_l ! (λ fit.
    -- [what the row lends; the row's words; nothing; a `&` to the pointer; ..; the numbers; the token]
    let b : ℕ = block_of d.ptr in let o : ℕ = count_of d.ptr in let xs = d.slots.items in
    let begins : d.slots.ptr ≡ block_ptr b o = sym x.1.1.0 ∙ x.1.1.1 in
    let held : AreFilled d.slots start (start + len) = subst (λ (r : Slots ℕ). AreFilled r start (start + len)) (sym x.1.0) asked in
    let run : List ℕ = take len (drop start xs) in
    let inside : start + len ≤ length xs = omega (arith, held.within, d.slots.ok.0) in
    let long : length run ≡ len = omega (arith, length-take len (drop start xs), length-drop start xs) in
    rewrite ! 0 (λ (r : Ptr). ‵ (slots_lent u8 r xs d.slots.filled κ)) begins refl $
    use1 𝓛 (‵ (elements_shared u8 run b (start + o) κ)) (run_lent 𝓛 κ b start len o (start + o) xs d.slots.filled refl (sym d.slots.ok.1 ∙ d.slots.ok.0) inside held.full) $ hide ! $
    keep ! (3 ∷ 8 ∷ 0 ∷ []) $ hide ! $
    -- [a `&` to the pointer; the token; what the slice holds]
    enter ! _ _ _ _ _ $ alloc_all ! (λ l. pass_all ! refl ((tt, tt), ((tt, record { fits = are.1.0.1 }), ((tt, record { fits = are.1.1.0.1 }), tt))) $
    first ! $ blocks ! $ pointer_in ! tt d.ptr b o x.1.1.1 rb (ro + 0) (λ q'.
    sets ! (of_opd ! (load ! (through ! refl (fld ! refl (stop !))) (look ! 0 refl))) refl (tt, tt) $
    pointer_out ! tt d.ptr b o x.1.1.1 rb (ro + 0) $
    sets ! (bin ! (get ! refl) (get ! refl) tt) refl (tt, tt) $
    let slice : WT (slice_val (b, start + o) len) = (tt, (record { fits = are.1.1.0.1 }, tt)) in
    sets_last ! (agg ! (and_then ! (get ! refl) (and_then ! (get ! refl) (no_more !)))) refl (tt, slice) $
    exec ! 𝓣.C 𝓣.Λ (env code.Mir.locals l) code.Mir.t-2 (at_ret _ (W.post y)) $
    sets ! (of_opd ! (get ! refl)) refl (tt, slice) $
    move ! (1 ∷ []) $ flt_i ! (length run * 1) (2 ^ 63) (omega (arith, fit, held.within, long)) $ flt_i ! (length run) (2 ^ 64) (omega (arith, are.1.1.0.1, long)) $ fjoin ! $
    feq_i ! (List Val) (slice_val (b, start + o) len ∷ []) (slice_val (b, start + o) (length run) ∷ []) (ap (λ (n : ℕ). slice_val (b, start + o) n ∷ []) (sym long)) $ fjoin ! $ fjoin ! $
    -- [the slice; the token]
    returns ! (look_at ! 0 refl) $ free_all ! refl $
    suffices ! _ (ends_at 𝓛 f.ended stayed c y (slice_val (b, start + o) len) (record { ref_ptr = (b, start + o); now = run }) (tt, (tt, (tt, tt))) (tt, (tt, (tt, tt)))) $
    let part : len ≡ start + len - start = omega arith in
    says ! (ap (λ (n : ℕ). take n (drop start xs)) part ∙ ap (λ (r : Slots ℕ). slice_range r.items start (start + len)) x.1.0) $
    nothing ! $ nothing ! $ fjoin ! $ nothing ! $ fjoin ! $ nothing ! $ fjoin ! $ nothing ! $ move ! (3 ∷ 0 ∷ []) $ join ! $ done !))))))
