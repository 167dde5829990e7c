-- `fill` opens the borrows of the places, makes a row of slots of them, fills it, and closes the borrows for good.
--
-- The `&` to the era lends a part of the era's token, by which the borrows are opened. What `filled` leaves is a row in
-- which each place holds its byte. So each borrow is closed as one of a byte, of which a `&` is made that lasts as long
-- as the era, and the part of the token is whole again.
use Rattle.lasso_log.proofs.WalkWords.{◌≡◌, ◌<◌, ◌*◌, ◌^◌, [], ◌∷◌, List, ℕ, length, arith, refl, sym, ap, subst, ◌∙◌, named, Val, WT, vptr, Lft, Share, ftrue, flft, ‵, raw, ◌⊛◌, some, given, later, prop, at_ret, ◌$◌, ◌∵◌, !, qed, by, keep, move, split, fsplit, fjoin, let_go, pick, learn, use0, use1, use2, use3, await, rewrite, regoal, no_more, and_then, of_opd, first, blocks, exec, stop, fld, returns, enter, alloc_all, pass_all, free_all, look_at, get, get_in, sets, lands_as, lands_last, env, agg, sub, whole, tables, yes, Stays, stay_dropped, Goes-dropped, walk_of, proved, owns, types_at, plain, RawPtr, u8, unit, nothing, heard, fact, unhide, RefOf, SliceRefOf, shr_vals, shr_Tells, ptr_val, Ptr, block_ptr, slice_val, elements_shared, shr_slice_vals, calls_at, calls_at_last, framed, token, Token, token_made, token_told, ends, says_three}
use mathlib.Core.Bool.{Bool, false}
use lib.ListN.{replicate, length-replicate}
use prog.Wp.{WpFn}
use types.ByLocal.{is}
use types.Tokens.{shr_bor-open, obor_close}
use types.Within.{tokens_halve}
use denote.Ref.{Bor}
use denote.Index.{row}
use base.Fraction.{full_share}
use Rattle.core.specs.Mem.Slots.Ownership.{slots}
use Rattle.core.specs.declared.slots.Slots.{Slots}
use Rattle.core.proofs.slots.Opens.{row_val}
use Rattle.core.proofs.slots.Places.{of_room, to_row}
use Rattle.core.proofs.slots.Slots.from_raw_parts.Met as makes
use Rattle.core.proofs.slots.Slots.into_raw_parts.Met as parts
use Rattle.lasso_log.specs.Eras.{life, lasts, free}
use Rattle.lasso_parts.proofs.RowCalls.{byte, byte_laws, Good, Row, Makes, making_of, IsMade, makes_goes, makes_gives, Parts, parting_of, parts_goes, parts_gives}
use Rattle.lasso_log.proofs.FillCalls.{Fills, filling_of, IsFilled, fills_goes, fills_gives}
use Rattle.lasso_log.proofs.LentBytes.{Space, opened, opens_all, closes_all}
use Rattle.lasso_log.proofs.shared_memory.rights.filled.Met as fills
use Rattle.lasso_log.specs.contracts.shared_memory.era.Era as Era
use Rattle.lasso_log.specs.contracts.shared_memory.rights.Free as Free
use Rattle.lasso_log.specs.contracts.shared_memory.rights.Lent as Lent
use Rattle.lasso_log.specs.contracts.shared_memory.rights.Free.fill as f
use Rattle.lasso_log.proofs.shared_memory.rights.Free.fill.Statement.{statement}
use Rattle.lasso_log.proofs.shared_memory.rights.Free.fill.Code as code

abbrev stayed : Stays f.ended.signature.params f.ended.kept
stayed = (
  stay_dropped (plain (λ _. Free.the_row)) yes,
  (stay_dropped (RefOf (0 ∷ []) tt (plain (λ _. Era.the_row)) (λ _. tt)) yes, (stay_dropped (plain (λ _. RawPtr)) yes, (stay_dropped (SliceRefOf (1 ∷ []) tt (plain (λ _. u8)) (λ _. tt)) yes, tt))),
)

pub fill_spec : {M : Type 1} → statement M
fill_spec 𝓤 𝓛 𝓜 𝓡 wired =
    let H = 𝓛.H in let c = f.clauses 𝓛 𝓜.mem 𝓡.returns in let W = walk_of 𝓛 f.ended stayed c in let 𝓣 = tables 𝓤 H 𝓜 𝓡 𝓡.env in
    proved 𝓛 f.ended stayed c 𝓜 𝓡 (
      Goes-dropped 𝓛 2 (plain (λ _. Free.the_row)) yes (λ κs x w. refl),
      (
        Goes-dropped 𝓛 2 (RefOf (0 ∷ []) tt (plain (λ _. Era.the_row)) (λ _. tt)) yes (λ κs x w. refl),
        (Goes-dropped 𝓛 2 (plain (λ _. RawPtr)) yes (λ κs x w. refl), (Goes-dropped 𝓛 2 (SliceRefOf (1 ∷ []) tt (plain (λ _. u8)) (λ _. tt)) yes (λ κs x w. refl), tt)),
      ),
    )
    f.Key.name code.function (code.unfolded 𝓤 H 𝓜 𝓡 wired)
    (λ κs. ((λ x. token ∷ []), (shr_vals, ((λ p. ptr_val p ∷ []), (shr_slice_vals, tt)))))
    (λ κs. ((λ x vs so. token_told unit vs so.0), (shr_Tells (named 0) κs.0 Era.the_row, ((λ p vs told. told), ((λ x vs told. told.0.0), tt))))) (λ κs qs bounds a gh are.
    let κ : Lft = κs.0 in let q : Share = qs.0 in let κ' : Lft = κs.1.0 in let q' : Share = qs.1.0 in
    let me = a.0 in let era : ℕ = me.era in let ptr : Ptr = a.1.1.0 in let x : Bor (List ℕ) = a.1.1.1.0 in let bytes : List ℕ = x.now in let n : ℕ = length bytes in
    let b : ℕ = me.block in let o : ℕ = me.start in let fits : n < 2 ^ 64 = are.1.1.1.0.0.1.0 in let small : n * 1 < 2 ^ 63 = are.1.1.1.0.0.1.1 in
    let y : W.Ghost = ((κs, qs, bounds, a, (token ∷ [], (shr_vals a.1.0, (ptr_val ptr ∷ [], (shr_slice_vals x, tt))))), gh) in
    let OfEra : Type 0 = era ≡ a.1.0.now.id in let At : Type 0 = ptr ≡ block_ptr b o in let Count : Type 0 = n ≡ me.len in
    let zeros : List ℕ = replicate n 0 in let marks : List Bool = replicate (length zeros) false in
    let long : n ≡ length zeros = sym (length-replicate n 0) in let counted : n ≡ length marks = long ∙ sym (length-replicate (length zeros) false) in
    let address : Val = vptr a.1.0.ref_ptr.0 a.1.0.ref_ptr.1 in let slice : Val = slice_val x.ref_ptr n in
    let number : WT (row_val b o n) = (tt, (record { fits = fits }, tt)) in
    qed 𝓛 (((‵ (flft κ q) ⊛ ‵ (flft κ' q') ⊛ ‵ ftrue) ⊛ ‵ (owns (types_at f.ended.signature.params κs) a y.0.4)) ∷ (raw (fact 𝓤 OfEra) ⊛ raw (fact 𝓤 At) ⊛ raw (fact 𝓤 Count)) ∷ []) ∵
    move ! (1 ∷ []) $ split ! $ heard ! OfEra (λ of_era. split ! $ heard ! At (λ at. heard ! Count (λ count. split ! $ split ! $ move ! (1 ∷ []) $ split ! $ move ! (3 ∷ []) $
    -- [what is owned; the token of the bytes; nothing; the token of the `&` to the era]
    fsplit ! $ fsplit ! $ let_go ! $ move ! (1 ∷ []) $ fsplit ! $ fsplit ! $ let_go ! $ unhide ! $ fsplit ! $ let_go ! $ move ! (1 ∷ []) $ fsplit ! $ let_go ! $ fsplit ! $ fsplit ! $ let_go ! $
    -- [a `&` to each byte; nothing; that the `&` lasts; the right; the token of the bytes; nothing; the token of the `&` to the era]
    keep ! (2 ∷ 6 ∷ 3 ∷ 0 ∷ 4 ∷ []) $ rewrite ! 0 (λ (e : ℕ). ‵ (lasts e κ)) (sym of_era) refl $ rewrite ! 2 (λ (m : ℕ). ‵ (free era b o m)) (sym count) refl $
    regoal ! (λ (v : Val). prop (WpFn 𝓤 H 𝓣.C 𝓣.Λ code.function (token ∷ address ∷ v ∷ slice ∷ []) (W.post y))) (ap ptr_val at) refl $
    enter ! _ _ _ _ _ $ alloc_all ! (λ l. pass_all ! refl ((tt, (tt, tt)), ((tt, tt), ((tt, tt), ((tt, (tt, (record { fits = fits }, tt))), tt)))) $ let En = env code.Mir.locals l in
    shr_bor-open ! tt (tokens_halve 𝓛 (life era)) (λ r.
    -- [the open borrow of the token; a part of the era's token; the right; a `&` to each byte; the token of the bytes]
    move ! (2 ∷ 1 ∷ []) $
    use2 𝓛 (later (‵ (Space 𝓛 era b o n) ⊛ ‵ (opened 𝓛 era b r o n))) (opens_all 𝓛 era b n o r) $ await ! tt $ split ! $
    -- [room; what closes the borrows; the open borrow of the token; a `&` to each byte; the token of the bytes]
    move ! (0 ∷ 3 ∷ 4 ∷ []) $
    rewrite ! 0 (λ (k : ℕ). ‵ (Space 𝓛 era b o k)) long refl $ use1 𝓛 (‵ (slots u8 (block_ptr b o) zeros marks)) (of_room byte 𝓛 b zeros o) $
    first ! $ blocks ! $ sets ! (of_opd ! (get_in ! (fld ! refl (stop !)) (sub ! 1 refl (whole !)))) refl (tt, record { fits = fits }) $
    use1 𝓛 (raw ((Makes 𝓛 𝓜.mem 𝓡.returns).pre (making_of 𝓛 𝓜.mem 𝓡.returns b o n zeros marks))) (makes_goes 𝓛 𝓜.mem 𝓡.returns b o n zeros marks long counted fits small) $
    calls_at_last ! (framed 𝓤 H 𝓜 𝓣) (Makes 𝓛 𝓜.mem 𝓡.returns) (makes.met 𝓤 𝓛 𝓜 𝓡 (code.calls-core::slots::Slots::from_raw_parts 𝓡.env wired) u8 byte_laws) (making_of 𝓛 𝓜.mem 𝓡.returns b o n zeros marks)
    (and_then ! (get ! refl) (and_then ! (get ! refl) (no_more !))) (λ w.
    use1 𝓛 (later (some (λ (s : Slots ℕ). given ((w ≡ row_val b o n) × IsMade 𝓛 𝓜.mem 𝓡.returns b o n zeros marks s) (‵ (Row.own_val s (row_val b o n ∷ [])))))) (makes_gives 𝓛 𝓜.mem 𝓡.returns b o n zeros marks w) $
    await ! tt $ pick ! (λ empty. learn ! (λ made.
    let begins : empty.ptr ≡ block_ptr b o = made.1.0 in let counts : empty.len ≡ n = made.1.1 in
    lands_last ! refl (subst (Good Row) (sym made.0) (tt, number)) $ exec ! 𝓣.C 𝓣.Λ En code.Mir.t-2 (at_ret En (W.post y)) $
    let again : row_val b o n ≡ row_val b o empty.len = ap (λ (k : ℕ). row_val b o k) (sym counts) in
    let number' : WT (row_val b o empty.len) = subst WT again number in
    sets ! (is ! (of_opd ! (get ! refl)) (made.0 ∙ again)) refl (tt, number') $ sets ! (of_opd ! (get ! refl)) refl (tt, number') $
    rewrite ! 0 (λ (v : Val). ‵ (Row.own_val empty (v ∷ []))) again refl $
    use3 𝓛 (raw ((Fills 𝓛 𝓜.mem 𝓡.returns).pre (filling_of 𝓛 𝓜.mem 𝓡.returns κ' q' empty b o x))) (fills_goes 𝓛 𝓜.mem 𝓡.returns κ' q' empty b o x (sym counts) fits small) $
    calls_at ! (framed 𝓤 H 𝓜 𝓣) (Fills 𝓛 𝓜.mem 𝓡.returns) (fills.met 𝓤 𝓛 𝓜 𝓡 (code.calls-lasso_log::shared_memory::rights::filled 𝓡.env wired)) (filling_of 𝓛 𝓜.mem 𝓡.returns κ' q' empty b o x)
    (and_then ! (get ! refl) (and_then ! (get ! refl) (no_more !))) (λ v.
    use1 𝓛 (later (some (λ (d : Slots ℕ). given ((v ≡ row_val b o d.len) × IsFilled 𝓛 𝓜.mem 𝓡.returns κ' q' empty b o x d) (‵ (Row.own_val d (row_val b o d.len ∷ [])) ⊛ ‵ (flft κ' q'))))) (fills_gives 𝓛 𝓜.mem 𝓡.returns κ' q' empty b o x begins v) $
    await ! tt $ pick ! (λ done_row. learn ! (λ so. split ! $ let d : Slots ℕ = done_row in let has = so.1 in
    let count' : d.len ≡ n = has.len ∙ counts in let number'' : WT (row_val b o d.len) = subst (λ (k : ℕ). WT (row_val b o k)) (sym count') number in
    lands_as ! so.0 refl (tt, number'') $ first ! $ blocks ! $ sets ! (of_opd ! (get ! refl)) refl (tt, number'') $
    use1 𝓛 (raw ((Parts 𝓛 𝓜.mem 𝓡.returns).pre (parting_of 𝓛 𝓜.mem 𝓡.returns d b o))) (parts_goes 𝓛 𝓜.mem 𝓡.returns d b o) $
    calls_at_last ! (framed 𝓤 H 𝓜 𝓣) (Parts 𝓛 𝓜.mem 𝓡.returns) (parts.met 𝓤 𝓛 𝓜 𝓡 (code.calls-core::slots::Slots::into_raw_parts 𝓡.env wired) u8 byte_laws) (parting_of 𝓛 𝓜.mem 𝓡.returns d b o)
    (and_then ! (get ! refl) (no_more !)) (λ u.
    use1 𝓛 (later (given (u ≡ row_val b o d.len) (‵ (slots u8 (block_ptr b o) d.items d.filled)))) (parts_gives 𝓛 𝓜.mem 𝓡.returns d b o has.at u) $ await ! tt $ learn ! (λ is_words.
    lands_last ! refl (subst (Good Row) (sym is_words) (tt, number'')) $ exec ! 𝓣.C 𝓣.Λ En code.Mir.t-6 (at_ret En (W.post y)) $
    sets ! (is ! (of_opd ! (get ! refl)) is_words) refl (tt, number'') $
    use1 𝓛 (‵ (row u8 full_share d.items b o)) (to_row byte 𝓛 b d.items d.filled o (sym d.ok.1 ∙ d.ok.0) (λ k low. has.full k (omega arith) (omega (arith, low, d.ok.1)))) $
    rewrite ! 0 (λ (l : List ℕ). ‵ (row u8 full_share l b o)) has.items refl $
    -- [the bytes; the token of the bytes; what closes the borrows; the open borrow of the token]
    move ! (0 ∷ 2 ∷ []) $
    use2 𝓛 (later (‵ (elements_shared u8 bytes b o (life era)) ⊛ ‵ (flft (life era) r))) (closes_all 𝓛 era b bytes o r) $ await ! tt $ split ! $
    -- [what lies there; a part of the era's token; the token of the bytes; the open borrow of the token]
    move ! (3 ∷ 1 ∷ []) $ obor_close ! tt $ let_go ! $
    -- [the token of the `&` to the era; what lies there; the token of the bytes]
    let r' : (Lent.the_row).Denot = record { marker = record {}; until = life era; at = block_ptr b o; bytes = bytes } in
    move ! (1 ∷ []) $ use0 𝓛 (‵ ((Token unit).own_val (record {}, tt) (token ∷ []))) (token_made unit 𝓛) $ fjoin ! $
    sets ! (agg ! (no_more !)) refl (tt, tt) $ sets ! (agg ! (and_then ! (get ! refl) (no_more !))) refl (tt, (tt, tt)) $
    nothing ! $ move ! (3 ∷ 0 ∷ []) $ fjoin ! $ move ! (2 ∷ 0 ∷ []) $ fjoin ! $
    nothing ! $ nothing ! $ fjoin ! $ nothing ! $ fjoin ! $ nothing ! $ fjoin ! $ nothing ! $ fjoin ! $
    returns ! (look_at ! 0 refl) $ free_all ! refl $ keep ! (1 ∷ 0 ∷ 2 ∷ []) $
    by ! (ends 𝓛 f.ended stayed c y token r' (tt, (tt, (tt, (tt, tt)))) (tt, (tt, (tt, (tt, tt)))) (says_three 𝓛 _ _ _ refl (sym at) refl))))))))))))))))
