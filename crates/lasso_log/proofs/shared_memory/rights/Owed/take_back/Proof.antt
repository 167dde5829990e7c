-- `take_back` has each place back, since the era is over, and makes a row of empty slots of them.
use Rattle.lasso_log.proofs.WalkWords.{◌≡◌, ◌<◌, ◌^◌, [], ◌∷◌, List, ℕ, length, arith, w64, refl, sym, ap, subst, ◌∙◌, named, Val, WT, vptr, vint, emp, Lft, Share, ftrue, flft, fdead, ‵, raw, ◌⊛◌, some, given, later, prop, at_ret, ◌$◌, ◌∵◌, !, qed, by, keep, move, split, fsplit, fjoin, let_go, pick, learn, use1, use2, await, rewrite, regoal, no_more, and_then, of_opd, first, blocks, exec, returns, enter, alloc_all, pass_all, free_all, look_at, get, sets, lands_last, env, tables, yes, Stays, stay_dropped, Goes-dropped, walk_of, proved, owns, types_at, plain, usize, RawPtr, u8, unit, nothing, heard, fact, unhide, RefOf, shr_vals, shr_Tells, uint_vals, uint_Tells, ptr_val, Ptr, block_ptr, calls_at_last, framed, token, token_told, ends, fact_i}
use mathlib.Core.Bool.{Bool, false}
use lib.ListN.{replicate, length-replicate}
use prog.Wp.{WpFn}
use types.ByLocal.{is}
use Rattle.core.specs.Mem.Slots.Ownership.{slots}
use Rattle.core.specs.declared.slots.Slots.{Slots}
use Rattle.core.proofs.slots.Opens.{row_val}
use Rattle.core.proofs.slots.Places.{of_room}
use Rattle.core.proofs.slots.Slots.from_raw_parts.Met as makes
use Rattle.lasso_log.specs.Eras.{life, owed}
use Rattle.lasso_parts.proofs.RowCalls.{byte, byte_laws, Good, Row, Makes, making_of, IsMade, makes_goes, makes_gives}
use Rattle.lasso_log.proofs.LentBytes.{Space, gets_back}
use Rattle.lasso_log.specs.contracts.shared_memory.era.Ended as Ended
use Rattle.lasso_log.specs.contracts.shared_memory.rights.Owed as Owed
use Rattle.lasso_log.specs.contracts.shared_memory.rights.Owed.take_back as f
use Rattle.lasso_log.proofs.shared_memory.rights.Owed.take_back.Statement.{statement}
use Rattle.lasso_log.proofs.shared_memory.rights.Owed.take_back.Code as code

abbrev stayed : Stays f.ended.signature.params f.ended.kept
stayed = (
  stay_dropped (plain (λ _. Owed.the_row)) yes,
  (stay_dropped (RefOf (0 ∷ []) tt (plain (λ _. Ended.the_row)) (λ _. tt)) yes, (stay_dropped (plain (λ _. RawPtr)) yes, (stay_dropped (plain (λ _. usize)) yes, tt))),
)

pub take_back_spec : {M : Type 1} → statement M
take_back_spec 𝓤 𝓛 𝓜 𝓡 wired =
    let H = 𝓛.H in let c = f.clauses 𝓛 𝓜.mem 𝓡.returns in let W = walk_of 𝓛 f.ended stayed c in let 𝓣 = tables 𝓤 H 𝓜 𝓡 𝓡.env in
    proved 𝓛 f.ended stayed c 𝓜 𝓡 (
      Goes-dropped 𝓛 1 (plain (λ _. Owed.the_row)) yes (λ κs x w. refl),
      (
        Goes-dropped 𝓛 1 (RefOf (0 ∷ []) tt (plain (λ _. Ended.the_row)) (λ _. tt)) yes (λ κs x w. refl),
        (Goes-dropped 𝓛 1 (plain (λ _. RawPtr)) yes (λ κs x w. refl), (Goes-dropped 𝓛 1 (plain (λ _. usize)) yes (λ κs x w. refl), tt)),
      ),
    )
    f.Key.name code.function (code.unfolded 𝓤 H 𝓜 𝓡 wired)
    (λ κs. ((λ x. token ∷ []), (shr_vals, ((λ p. ptr_val p ∷ []), (uint_vals w64, tt)))))
    (λ κs. ((λ x vs so. token_told unit vs so.0), (shr_Tells (named 0) κs.0 Ended.the_row, ((λ p vs told. told), (uint_Tells w64, tt))))) (λ κs qs bounds a gh are.
    let κ : Lft = κs.0 in let q : Share = qs.0 in let me = a.0 in let era : ℕ = me.era in let ptr : Ptr = a.1.1.0 in let n : ℕ = a.1.1.1.0 in
    let b : ℕ = me.block in let o : ℕ = me.start in let fits : n < 2 ^ 64 = are.1.1.1.0.1 in
    let y : W.Ghost = ((κs, qs, bounds, a, (token ∷ [], (shr_vals a.1.0, (ptr_val ptr ∷ [], (uint_vals w64 n, tt))))), gh) in
    let OfEra : Type 0 = era ≡ a.1.0.now.id in let At : Type 0 = ptr ≡ block_ptr b o in let Count : Type 0 = (me.len ≡ n) × (n < 2 ^ 63) in
    let zeros : List ℕ = replicate n 0 in let marks : List Bool = replicate (length zeros) false in
    let long : n ≡ length zeros = sym (length-replicate n 0) in let counted : n ≡ length marks = long ∙ sym (length-replicate (length zeros) false) in
    let address : Val = vptr a.1.0.ref_ptr.0 a.1.0.ref_ptr.1 in let number : WT (row_val b o n) = (tt, (record { fits = fits }, tt)) in
    qed 𝓛 (((‵ (flft κ q) ⊛ ‵ ftrue) ⊛ ‵ (owns (types_at f.ended.signature.params κs) a y.0.4)) ∷ (raw (fact 𝓤 OfEra) ⊛ raw (fact 𝓤 At) ⊛ raw (fact 𝓤 Count)) ∷ []) ∵
    move ! (1 ∷ []) $ split ! $ heard ! OfEra (λ of_era. split ! $ heard ! At (λ at. heard ! Count (λ count. split ! $ split ! $ move ! (2 ∷ []) $
    fsplit ! $ fsplit ! $ let_go ! $ move ! (1 ∷ []) $ fsplit ! $ fsplit ! $ let_go ! $ unhide ! $ fsplit ! $ let_go ! $
    -- [that the era is over; the numbers; the right; the token of the `&`]
    keep ! (0 ∷ 2 ∷ 3 ∷ []) $ rewrite ! 0 (λ (e : ℕ). ‵ (fdead (life e))) (sym of_era) refl $ rewrite ! 1 (λ (m : ℕ). ‵ (owed era b o m)) count.0 refl $
    regoal ! (λ (v : Val). prop (WpFn 𝓤 H 𝓣.C 𝓣.Λ code.function (token ∷ address ∷ v ∷ vint w64 n ∷ []) (W.post y))) (ap ptr_val at) refl $
    enter ! _ _ _ _ _ $ alloc_all ! (λ l. pass_all ! refl ((tt, (tt, tt)), ((tt, tt), ((tt, tt), ((tt, record { fits = fits }), tt)))) $ let En = env code.Mir.locals l in
    use2 𝓛 (later (‵ (Space 𝓛 era b o n))) (gets_back 𝓛 era b n o) $ await ! tt $
    rewrite ! 0 (λ (k : ℕ). ‵ (Space 𝓛 era b o k)) long refl $ use1 𝓛 (‵ (slots u8 (block_ptr b o) zeros marks)) (of_room byte 𝓛 b zeros o) $
    first ! $ blocks ! $
    use1 𝓛 (raw ((Makes 𝓛 𝓜.mem 𝓡.returns).pre (making_of 𝓛 𝓜.mem 𝓡.returns b o n zeros marks))) (makes_goes 𝓛 𝓜.mem 𝓡.returns b o n zeros marks long counted fits (omega (arith, count.1))) $
    calls_at_last ! (framed 𝓤 H 𝓜 𝓣) (Makes 𝓛 𝓜.mem 𝓡.returns) (makes.met 𝓤 𝓛 𝓜 𝓡 (code.calls-core::slots::Slots::from_raw_parts 𝓡.env wired) u8 byte_laws) (making_of 𝓛 𝓜.mem 𝓡.returns b o n zeros marks)
    (and_then ! (get ! refl) (and_then ! (get ! refl) (no_more !))) (λ w.
    use1 𝓛 (later (some (λ (s : Slots ℕ). given ((w ≡ row_val b o n) × IsMade 𝓛 𝓜.mem 𝓡.returns b o n zeros marks s) (‵ (Row.own_val s (row_val b o n ∷ [])))))) (makes_gives 𝓛 𝓜.mem 𝓡.returns b o n zeros marks w) $
    await ! tt $ pick ! (λ s. learn ! (λ made.
    lands_last ! refl (subst (Good Row) (sym made.0) (tt, number)) $ exec ! 𝓣.C 𝓣.Λ En code.Mir.t-2 (at_ret En (W.post y)) $
    sets ! (is ! (of_opd ! (get ! refl)) made.0) refl (tt, number) $
    -- [the row; the token of the `&`]
    nothing ! $ move ! (2 ∷ 0 ∷ []) $ fjoin ! $ nothing ! $ nothing ! $ fjoin ! $ nothing ! $ fjoin ! $ nothing ! $ fjoin ! $ nothing ! $ fjoin ! $
    returns ! (look_at ! 0 refl) $ free_all ! refl $ keep ! (1 ∷ 0 ∷ 2 ∷ []) $
    by ! (ends 𝓛 f.ended stayed c y (row_val b o n) s (tt, (tt, (tt, (tt, tt)))) (tt, (tt, (tt, (tt, tt)))) (fact_i 𝓤 _ (emp 𝓤) (made.1.0 ∙ sym at, made.1.1)))))))))))
