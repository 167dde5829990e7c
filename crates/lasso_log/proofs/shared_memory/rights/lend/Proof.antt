-- `lend` gives up a row of slots for its places, and lends each of them.
use Rattle.lasso_log.proofs.WalkWords.{◌≡◌, [], ◌∷◌, ◌++◌, List, ℕ, length, refl, sym, subst, ◌∙◌, Val, WT, Lft, Share, ftrue, flft, ‵, raw, ◌⊛◌, given, later, prop, at_ret, ◌$◌, ◌∵◌, !, qed, by, keep, move, split, fsplit, fjoin, let_go, learn, use0, use1, use2, await, rewrite, regoal, feq_l, no_more, and_then, of_opd, first, blocks, exec, returns, enter, alloc_all, pass_all, free_all, look_at, get, sets, lands_last, env, agg, tables, yes, Stays, stay_dropped, Goes-dropped, walk_of, owns, types_at, plain, u8, unit, RattleType, nothing, RefOf, block_ptr, calls_at_last, framed, token, Token, token_made, ends, says_two}
use prog.Wp.{WpFn}
use types.Kit.{Goal}
use types.ByLocal.{is}
use Rattle.std.proofs.raw_atomic.Walks.{proved_at}
use Rattle.core.specs.Mem.Slots.Ownership.{slots}
use Rattle.core.specs.declared.slots.Slots.{Slots}
use Rattle.core.proofs.alloc.Calls.{Goes-blank}
use Rattle.core.proofs.slots.Opens.{row_val, row_had, row_made}
use Rattle.core.proofs.slots.Places.{to_room}
use Rattle.core.proofs.slots.Slots.into_raw_parts.Met as parts
use Rattle.std_alloc.proofs.Pairs.{pair_val, pair_of}
use Rattle.lasso_log.specs.Eras.{free, owed}
use Rattle.lasso_parts.proofs.RowCalls.{byte, byte_laws, Good, Row, Parts, parting_of, parts_goes, parts_gives}
use Rattle.lasso_log.proofs.LentBytes.{Space, lends}
use Rattle.lasso_log.specs.contracts.shared_memory.era.Era as Era
use Rattle.lasso_log.specs.contracts.shared_memory.rights.Free as Free
use Rattle.lasso_log.specs.contracts.shared_memory.rights.Owed as Owed
use Rattle.lasso_log.specs.contracts.shared_memory.rights.lend as f
use Rattle.lasso_log.proofs.shared_memory.rights.lend.Statement.{statement}
use Rattle.lasso_log.proofs.shared_memory.rights.lend.Code as code

abbrev stayed : Stays f.ended.signature.params f.ended.kept
stayed = (stay_dropped (RefOf (0 ∷ []) tt (plain (λ _. Era.the_row)) (λ _. tt)) yes, (stay_dropped (plain (λ _. Row)) yes, tt))

pub lend_spec : {M : Type 1} → statement M
lend_spec 𝓤 𝓛 𝓜 𝓡 wired =
    let H = 𝓛.H in let c = f.clauses 𝓛 𝓜.mem 𝓡.returns in let W = walk_of 𝓛 f.ended stayed c in let 𝓣 = tables 𝓤 H 𝓜 𝓡 𝓡.env in
    proved_at 𝓛 f.ended stayed c 𝓜 𝓡 (Goes-dropped 𝓛 1 (RefOf (0 ∷ []) tt (plain (λ _. Era.the_row)) (λ _. tt)) yes (λ κs x w. refl), (Goes-blank 𝓛 1 (plain (λ _. Row)) yes (λ κs x w. tt), tt))
    f.Key.name code.function (code.unfolded 𝓤 H 𝓜 𝓡 wired) (λ y _.
    let κs = y.0.0 in let qs = y.0.1 in let a = y.0.3 in let vss = y.0.4 in
    let κ : Lft = κs.0 in let q : Share = qs.0 in let era : ℕ = a.0.now.id in let d : Slots ℕ = a.1.0 in let n : ℕ = d.len in
    let Run : List Val → Goal 𝓤 H = λ us. prop (WpFn 𝓤 H 𝓣.C 𝓣.Λ code.function us (W.post y)) in
    qed 𝓛 (((‵ (flft κ q) ⊛ ‵ ftrue) ⊛ ‵ (owns (types_at f.ended.signature.params κs) a vss)) ∷ raw ((c κs a).requires y.1) ∷ []) ∵ keep ! (0 ∷ []) $ split ! $ split ! $ move ! (2 ∷ []) $
    fsplit ! $ fsplit ! $ feq_l ! (λ is_ref. let_go ! $ fsplit ! $ row_had byte ! d vss.1.0 (λ b o at is_row fits small. row_made byte ! d b o at fits small $
    let number : WT (row_val b o n) = (tt, (record { fits = fits }, tt)) in
    keep ! (0 ∷ 2 ∷ []) $
    regoal ! Run (λ i. is_ref i ++ (is_row i ++ [])) refl $
    -- [the row; the token of the `&`]
    enter ! _ _ _ _ _ $ alloc_all ! (λ l. pass_all ! refl ((tt, tt), ((tt, number), tt)) $ let En = env code.Mir.locals l in
    first ! $ blocks ! $ sets ! (of_opd ! (get ! refl)) refl (tt, number) $
    use1 𝓛 (raw ((Parts 𝓛 𝓜.mem 𝓡.returns).pre (parting_of 𝓛 𝓜.mem 𝓡.returns d b o))) (parts_goes 𝓛 𝓜.mem 𝓡.returns d b o) $
    calls_at_last ! (framed 𝓤 H 𝓜 𝓣) (Parts 𝓛 𝓜.mem 𝓡.returns) (parts.met 𝓤 𝓛 𝓜 𝓡 (code.calls-core::slots::Slots::into_raw_parts 𝓡.env wired) u8 byte_laws) (parting_of 𝓛 𝓜.mem 𝓡.returns d b o)
    (and_then ! (get ! refl) (no_more !)) (λ u.
    use1 𝓛 (later (given (u ≡ row_val b o n) (‵ (slots u8 (block_ptr b o) d.items d.filled)))) (parts_gives 𝓛 𝓜.mem 𝓡.returns d b o at u) $ await ! tt $ learn ! (λ is_words.
    lands_last ! refl (subst (Good Row) (sym is_words) (tt, number)) $ exec ! 𝓣.C 𝓣.Λ En code.Mir.t-2 (at_ret En (W.post y)) $
    sets ! (is ! (of_opd ! (get ! refl)) is_words) refl (tt, number) $
    use1 𝓛 (‵ (Space 𝓛 era b o (length d.items))) (to_room byte 𝓛 b d.items d.filled o (sym d.ok.1 ∙ d.ok.0)) $ rewrite ! 0 (λ (k : ℕ). ‵ (Space 𝓛 era b o k)) (sym d.ok.0) refl $
    use1 𝓛 (later (‵ (free era b o n) ⊛ ‵ (owed era b o n))) (lends 𝓛 era b n o) $ await ! tt $ split ! $
    let F : RattleType = Free.the_row in let O : RattleType = Owed.the_row in
    let r : F.Denot = record { marker = record {}; era = era; block = b; start = o; len = n } in let s : O.Denot = record { marker = record {}; era = era; block = b; start = o; len = n } in
    use0 𝓛 (‵ ((Token unit).own_val (record {}, tt) (token ∷ []))) (token_made unit 𝓛) $ fjoin ! $ move ! (1 ∷ []) $
    use0 𝓛 (‵ ((Token unit).own_val (record {}, tt) (token ∷ []))) (token_made unit 𝓛) $ fjoin ! $ move ! (1 ∷ 0 ∷ []) $
    use2 𝓛 (‵ ((denote.Struct.Tuple.Tuple (F ∷ O ∷ [])).own_val (r, s) (pair_val token token ∷ []))) (pair_of 𝓛 F O r s token token) $
    sets ! (agg ! (no_more !)) refl (tt, tt) $ sets ! (agg ! (and_then ! (get ! refl) (no_more !))) refl (tt, (tt, tt)) $
    sets ! (agg ! (no_more !)) refl (tt, tt) $ sets ! (agg ! (and_then ! (get ! refl) (no_more !))) refl (tt, (tt, tt)) $
    sets ! (agg ! (and_then ! (get ! refl) (and_then ! (get ! refl) (no_more !)))) refl (tt, ((tt, tt), ((tt, tt), tt))) $
    nothing ! $ move ! (2 ∷ 0 ∷ []) $ fjoin ! $ nothing ! $ nothing ! $ fjoin ! $ nothing ! $ fjoin ! $
    returns ! (look_at ! 0 refl) $ free_all ! refl $ keep ! (1 ∷ 0 ∷ 2 ∷ []) $
    by ! (ends 𝓛 f.ended stayed c y (pair_val token token) (r, s) (tt, (tt, tt)) (tt, (tt, tt)) (says_two 𝓛 _ _ (refl, sym at, refl) (refl, sym at, refl)))))))))
