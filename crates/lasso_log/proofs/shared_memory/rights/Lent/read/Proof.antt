-- `read` makes a slice of bytes that lie there: they do as long as the era, and so as long as the `&` to it. That they lie there is
-- lasting, so nothing of the `&` to the right itself is needed afterwards.
use Rattle.lasso_log.proofs.WalkWords.{◌≡◌, ◌<◌, ◌*◌, ◌^◌, [], ◌∷◌, List, ℕ, length, arith, w64, refl, sym, ap, ◌∙◌, named, Val, WT, vptr, vint, Lft, ftrue, flft, ‵, raw, ◌⊛◌, prop, at_ret, ◌$◌, ◌∵◌, !, qed, keep, move, split, join, fsplit, fjoin, let_go, use1, use2, regoal, feq_i, flt_i, suffices, done, no_more, and_then, of_opd, first, blocks, exec, returns, enter, alloc_all, pass_all, free_all, look_at, get, sets, sets_last, env, agg, tables, yes, Stays, stay_dropped, Goes-dropped, walk_of, says, ends_at, proved, owns, types_at, plain, usize, RawPtr, u8, nothing, heard, fact, hide, unhide, RefOf, shr_vals, shr_Tells, uint_vals, uint_Tells, ptr_val, Ptr, block_ptr, block_of, count_of, slice_val, elements_shared}
use base.Fml.{Incl}
use prog.Wp.{WpFn}
use denote.SharingLaws.{shortens}
use Rattle.lasso_parts.specs.Block.{LeadsToBlock}
use Rattle.lasso_log.specs.Eras.{life, lies}
use Rattle.lasso_log.proofs.LentBytes.{lies_laws, read_within}
use Rattle.lasso_log.specs.contracts.shared_memory.era.Era as Era
use Rattle.lasso_log.specs.contracts.shared_memory.rights.Lent as Lent
use Rattle.lasso_log.specs.contracts.shared_memory.rights.Lent.read as f
use Rattle.lasso_log.proofs.shared_memory.rights.Lent.read.Statement.{statement}
use Rattle.lasso_log.proofs.shared_memory.rights.Lent.read.Code as code

abbrev stayed : Stays f.ended.signature.params f.ended.kept
stayed = (
  stay_dropped (RefOf (0 ∷ []) tt (plain (λ _. Lent.the_row)) (λ _. tt)) yes,
  (stay_dropped (RefOf (1 ∷ []) tt (plain (λ _. Era.the_row)) (λ _. tt)) yes, (stay_dropped (plain (λ _. RawPtr)) yes, (stay_dropped (plain (λ _. usize)) yes, tt))),
)

pub read_spec : {M : Type 1} → statement M
read_spec 𝓤 𝓛 𝓜 𝓡 wired =
    let H = 𝓛.H in let c = f.clauses 𝓛 𝓜.mem 𝓡.returns in let W = walk_of 𝓛 f.ended stayed c in let 𝓣 = tables 𝓤 H 𝓜 𝓡 𝓡.env in
    proved 𝓛 f.ended stayed c 𝓜 𝓡 (
      Goes-dropped 𝓛 2 (RefOf (0 ∷ []) tt (plain (λ _. Lent.the_row)) (λ _. tt)) yes (λ κs x w. refl),
      (
        Goes-dropped 𝓛 2 (RefOf (1 ∷ []) tt (plain (λ _. Era.the_row)) (λ _. tt)) yes (λ κs x w. refl),
        (Goes-dropped 𝓛 2 (plain (λ _. RawPtr)) yes (λ κs x w. refl), (Goes-dropped 𝓛 2 (plain (λ _. usize)) yes (λ κs x w. refl), tt)),
      ),
    )
    f.Key.name code.function (code.unfolded 𝓤 H 𝓜 𝓡 wired)
    (λ κs. (shr_vals, (shr_vals, ((λ p. ptr_val p ∷ []), (uint_vals w64, tt)))))
    (λ κs. (shr_Tells (named 0) κs.0 Lent.the_row, (shr_Tells (named 1) κs.1.0 Era.the_row, ((λ p vs told. told), (uint_Tells w64, tt))))) (λ κs qs bounds a _ are.
    let κ : Lft = κs.1.0 in let me = a.0.now in let era : ℕ = a.1.0.now.id in let ptr : Ptr = a.1.1.0 in let len : ℕ = a.1.1.1.0 in
    let bytes : List ℕ = me.bytes in let b : ℕ = block_of me.at in let o : ℕ = count_of me.at in let fits = are.1.1.1.0.1 in
    let y : W.Ghost = ((κs, qs, bounds, a, (shr_vals a.0, (shr_vals a.1.0, (ptr_val ptr ∷ [], (uint_vals w64 len, tt))))), tt) in
    let Lasts : Type 0 = Incl (life era) me.until in let At : Type 0 = (ptr ≡ me.at) × LeadsToBlock ptr in let Count : Type 0 = (len ≡ length bytes) × (len < 2 ^ 63) in
    qed 𝓛 (((‵ (flft κs.0 qs.0) ⊛ (‵ (flft κ qs.1.0) ⊛ ‵ ftrue)) ⊛ ‵ (owns (types_at f.ended.signature.params κs) a y.0.4)) ∷ (raw (fact 𝓤 Lasts) ⊛ raw (fact 𝓤 At) ⊛ raw (fact 𝓤 Count)) ∷ []) ∵
    move ! (1 ∷ []) $ split ! $ heard ! Lasts (λ lasts. split ! $ heard ! At (λ at. heard ! Count (λ count. split ! $ split ! $ move ! (2 ∷ []) $
    fsplit ! $ fsplit ! $ let_go ! $ unhide ! $ fsplit ! $ let_go ! $ move ! (1 ∷ []) $ fsplit ! $ fsplit ! $ let_go ! $ unhide ! $ fsplit ! $ let_go ! $
    -- [that the `&` ends no later than the era; the numbers; what lies there; the tokens]
    move ! (0 ∷ 2 ∷ 3 ∷ 4 ∷ []) $ keep ! (0 ∷ 1 ∷ 2 ∷ 3 ∷ []) $ move ! (1 ∷ []) $
    use1 𝓛 (‵ (lies bytes me.at (life era))) (shortens 𝓛 (lies bytes me.at) (lies_laws bytes me.at) me.until (life era) lasts) $ move ! (1 ∷ 0 ∷ []) $
    use2 𝓛 (‵ (elements_shared u8 bytes b o κ)) (read_within 𝓛 era bytes me.at κ) $ hide ! $
    -- [a `&` to each byte; the tokens]
    let long : length bytes ≡ len = sym count.0 in
    let begins : ptr ≡ block_ptr b o = at.1 ∙ ap (λ (p : Ptr). block_ptr (block_of p) (count_of p)) at.0 in
    regoal ! (λ (v : Val). prop (WpFn 𝓤 H 𝓣.C 𝓣.Λ code.function (vptr a.0.ref_ptr.0 a.0.ref_ptr.1 ∷ vptr a.1.0.ref_ptr.0 a.1.0.ref_ptr.1 ∷ v ∷ vint w64 len ∷ []) (W.post y))) (ap ptr_val begins) refl $
    enter ! _ _ _ _ _ $ alloc_all ! (λ l. pass_all ! refl ((tt, tt), ((tt, tt), ((tt, tt), ((tt, record { fits = fits }), tt)))) $
    let slice : WT (slice_val (b, o) len) = (tt, (record { fits = fits }, tt)) in
    first ! $ blocks ! $ sets_last ! (agg ! (and_then ! (get ! refl) (and_then ! (get ! refl) (no_more !)))) refl (tt, slice) $
    exec ! 𝓣.C 𝓣.Λ (env code.Mir.locals l) code.Mir.t-2 (at_ret _ (W.post y)) $
    sets ! (of_opd ! (get ! refl)) refl (tt, slice) $
    flt_i ! (length bytes * 1) (2 ^ 63) (omega (arith, count.1, long)) $ flt_i ! (length bytes) (2 ^ 64) (omega (arith, count.1, long)) $ fjoin ! $
    feq_i ! (List Val) (slice_val (b, o) len ∷ []) (slice_val (b, o) (length bytes) ∷ []) (ap (λ (n : ℕ). slice_val (b, o) n ∷ []) (sym long)) $ fjoin ! $ fjoin ! $
    -- [the slice; the tokens]
    returns ! (look_at ! 0 refl) $ free_all ! refl $
    suffices ! _ (ends_at 𝓛 f.ended stayed c y (slice_val (b, o) len) (record { ref_ptr = (b, o); now = bytes }) (tt, (tt, (tt, (tt, tt)))) (tt, (tt, (tt, (tt, tt))))) $ says ! refl $
    nothing ! $ nothing ! $ fjoin ! $ nothing ! $ fjoin ! $ nothing ! $ fjoin ! $ nothing ! $ fjoin ! $ move ! (2 ∷ 3 ∷ []) $ join ! $ done !)))))
