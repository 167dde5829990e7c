-- `read` makes a slice of the bytes of a text.
--
-- A `&` to the loan and one to the regions lend a `&` to each byte of the text (`TextsLent`). With the address and the
-- number of the bytes that is what a slice is.
use Rattle.std.proofs.Common.{◌≡◌, ℕ, ◌*◌, ◌^◌, List, [], ◌∷◌, length, refl, sym, ap, ◌∙◌, arith, w64}
use base.Fml.{Lft, Share, ftrue, fsep, flft, flt}
use mir.Syntax.{named}
use mir.Val.{Val, WT, vptr, vint}
use prog.Wp.{WpFn}
use types.Kit.{‵, raw, ◌⊛◌, prop, at_ret, ◌$◌, ◌∵◌, !, qed, move, keep, drop as let_go, split, join, fsplit, fjoin, feq_i, flt_l, flt_i, regoal, use1, suffices, done}
use types.Part.{agg}
use types.Run.{enter, returns, of_opd, and_then, no_more, first, blocks, exec}
use types.ByLocal.{alloc_all, pass_all, free_all, look_at, get, sets, sets_last, env}
use contract.Monad.{fact}
use contract.Running.{tables}
use denote.Builtin.{u8, usize, RawPtr, RefOf, SliceRefOf}
use denote.Exit.{yes}
use denote.Opens.{hide, unhide}
use denote.Plain.{uint_vals, uint_Tells}
use denote.RattleType.{owns}
use denote.RawPtr.{Ptr, block_ptr, block_of, count_of, ptr_val}
use denote.Ref.{shr_vals, shr_Tells}
use denote.Signature.{plain, types_at}
use denote.Slice.{slice_val, elements_shared, shr_slice_vals}
use denote.Steps.{heard, nothing}
use denote.Triple.Walked.{Stays, stay_dropped, Goes-dropped, walk_of, says, ends_at}
use Rattle.std.proofs.raw_atomic.Walks.{proved}
use Rattle.lasso_parts.specs.Bucket.{Extent}
use Rattle.lasso_parts.specs.Entries.{LentText, IsLent, AreWordsOf, lent_bytes}
use Rattle.lasso_parts.specs.contracts.bucket.region.Region.{the_row as Part}
use Rattle.lasso_parts.specs.contracts.entries.loan.Loan.{the_row as Kept}
use Rattle.lasso_parts.specs.contracts.entries.loan.Loan.read as f
use Rattle.lasso_parts.proofs.TextsLent.{text_lent, text_len}
use Rattle.lasso_parts.proofs.entries.loan.Loan.read.Statement.{statement}
use Rattle.lasso_parts.proofs.entries.loan.Loan.read.Code as code

abbrev stayed : Stays f.ended.signature.params f.ended.kept
stayed = (
  stay_dropped (RefOf (0 ∷ []) tt (plain (λ _. Kept)) (λ _. tt)) yes,
  (stay_dropped (SliceRefOf (0 ∷ []) tt (plain (λ _. Part)) (λ _. tt)) yes, (stay_dropped (plain (λ _. RawPtr)) yes, (stay_dropped (plain (λ _. usize)) yes, tt))),
)

pub read_spec : {M : Type 1} → statement M
read_spec 𝓤 𝓛 𝓜 𝓡 wired =
    let H = 𝓛.H in let c = f.clauses 𝓛 𝓜.mem 𝓡.returns in let W = walk_of 𝓛 f.ended stayed c in let 𝓣 = tables 𝓤 H 𝓜 𝓡 𝓡.env in
    proved 𝓛 f.ended stayed c 𝓜 𝓡 (
      Goes-dropped 𝓛 1 (RefOf (0 ∷ []) tt (plain (λ _. Kept)) (λ _. tt)) yes (λ κs x w. refl),
      (
        Goes-dropped 𝓛 1 (SliceRefOf (0 ∷ []) tt (plain (λ _. Part)) (λ _. tt)) yes (λ κs x w. refl),
        (Goes-dropped 𝓛 1 (plain (λ _. RawPtr)) yes (λ κs x w. refl), (Goes-dropped 𝓛 1 (plain (λ _. usize)) yes (λ κs x w. refl), tt)),
      ),
    )
    f.Key.name code.function (code.unfolded 𝓤 H 𝓜 𝓡 wired)
    (λ κs. (shr_vals, (shr_slice_vals, ((λ p. ptr_val p ∷ []), (uint_vals w64, tt)))))
    (λ κs. (shr_Tells (named 0) κs.0 Kept, ((λ x vs told. told.0.0), ((λ p vs told. told), (uint_Tells w64, tt))))) (λ κs qs bounds a _ are.
    let κ : Lft = κs.0 in let q : Share = qs.0 in let e : LentText = a.0.now.text in let regions : List Extent = a.1.0.now in let ptr : Ptr = a.1.1.0 in let len : ℕ = a.1.1.1.0 in
    let rb : ℕ = a.1.0.ref_ptr.0 in let ro : ℕ = a.1.0.ref_ptr.1 in
    let bytes : List ℕ = lent_bytes regions e in let b : ℕ = block_of e.at in let o : ℕ = count_of e.at in let fits = are.1.1.1.0.1 in
    let y : W.Ghost = ((κs, qs, bounds, a, (shr_vals a.0, (shr_slice_vals a.1.0, (ptr_val ptr ∷ [], (uint_vals w64 len, tt))))), tt) in
    let Asked : Type 0 = IsLent regions e × AreWordsOf e ptr len in
    qed 𝓛 (((‵ (flft κ q) ⊛ ‵ ftrue) ⊛ ‵ (owns (types_at f.ended.signature.params κs) a y.0.4)) ∷ raw (fact 𝓤 Asked) ∷ []) ∵
    move ! (1 ∷ []) $ heard ! Asked (λ asked. split ! $ split ! $ move ! (2 ∷ []) $ fsplit ! $ fsplit ! $ let_go ! $ unhide ! $ fsplit ! $ let_go ! $ move ! (1 ∷ []) $ fsplit ! $ fsplit ! $ let_go ! $ unhide ! $
    keep ! (2 ∷ 0 ∷ 3 ∷ []) $ fjoin ! $
    -- [what the loan and the regions lend; the token]
    use1 𝓛 (‵ (fsep (flt len (2 ^ 63)) (elements_shared u8 bytes b o κ))) (text_lent 𝓛 κ regions e ptr len rb ro asked.0 asked.1) $ fsplit ! $ flt_l ! (λ small. hide ! $
    -- [a `&` to each byte; the token]
    let long : length bytes ≡ len = text_len regions e ptr len asked.0 asked.1 in
    let begins : ptr ≡ block_ptr b o = asked.1.address ∙ asked.1.block in
    regoal ! (λ (v : Val). prop (WpFn 𝓤 H 𝓣.C 𝓣.Λ code.function (vptr a.0.ref_ptr.0 a.0.ref_ptr.1 ∷ slice_val (rb, ro) (length regions) ∷ v ∷ vint w64 len ∷ []) (W.post y))) (ap ptr_val begins) refl $
    enter ! _ _ _ _ _ $ alloc_all ! (λ l. pass_all ! refl ((tt, tt), ((tt, (tt, (record { fits = are.1.0.0.1.0 }, tt))), ((tt, tt), ((tt, record { fits = fits }), tt)))) $
    let slice : WT (slice_val (b, o) len) = (tt, (record { fits = fits }, tt)) in
    first ! $ blocks ! $ sets_last ! (agg ! (and_then ! (get ! refl) (and_then ! (get ! refl) (no_more !)))) refl (tt, slice) $
    exec ! 𝓣.C 𝓣.Λ (env code.Mir.locals l) code.Mir.t-2 (at_ret _ (W.post y)) $
    sets ! (of_opd ! (get ! refl)) refl (tt, slice) $
    flt_i ! (length bytes * 1) (2 ^ 63) (omega (arith, small, long)) $ flt_i ! (length bytes) (2 ^ 64) (omega (arith, small, long)) $ fjoin ! $
    feq_i ! (List Val) (slice_val (b, o) len ∷ []) (slice_val (b, o) (length bytes) ∷ []) (ap (λ (n : ℕ). slice_val (b, o) n ∷ []) (sym long)) $ fjoin ! $ fjoin ! $
    -- [the slice; the token]
    returns ! (look_at ! 0 refl) $ free_all ! refl $
    suffices ! _ (ends_at 𝓛 f.ended stayed c y (slice_val (b, o) len) (record { ref_ptr = (b, o); now = bytes }) (tt, (tt, (tt, (tt, tt)))) (tt, (tt, (tt, (tt, tt))))) $ says ! refl $
    nothing ! $ nothing ! $ fjoin ! $ nothing ! $ fjoin ! $ nothing ! $ fjoin ! $ nothing ! $ fjoin ! $ nothing ! $ move ! (3 ∷ 0 ∷ []) $ join ! $ done !))))
