-- `lasso_shared_texts` passes all that it is given on to `lend_from`, whose clauses are its own, and returns the count of what comes back.
-- Both references are given up for good: the one to the handle is lent on, and of the slice's only its last value is left.
use Rattle.std.proofs.Common.{◌≡◌, ℕ, ◌-◌, List, [], ◌∷◌, length, map, take, drop, refl, sym, subst, ◌∙◌, w64}
use Rattle.std.specs.Prelude.{min}
use mir.Syntax.{named}
use mir.Val.{WT, vint}
use base.Logic.{emp, id⊢}
use base.Fml.{ftrue, flft}
use contract.Monad.{fact, fact_i}
use contract.Running.{tables}
use types.Kit.{Item, ‵, raw, ◌⊛◌, some, later, ◌$◌, ◌∵◌, !, qed, done, move, keep, drop as leave, use0, use1, use2, split, split3, join, pick, feq_l, await, fsplit, fjoin, suffices, group}
use types.Run.{enter, addr, from, fld, hop, stop, no_more, and_then, returns}
use types.ByLocal.{alloc_all, pass_all, free_all, look_at, look_in_at, get, get_in, through, sets, lands_as}
use types.Part.{agg, sub, whole}
use denote.Builtin.{usize}
use denote.Exit.{yes, no}
use denote.Laws.{Is, shows}
use denote.Plain.{uint_vals, uint_Tells, uint_Lawful}
use denote.RattleType.{RattleType}
use denote.Ref.{mut_vals, mut_Tells}
use denote.Slice.{mut_slice_vals, mut_slice_Tells}
use denote.Signature.{plain, mut_ref_to, named_lft}
use denote.Steps.{nothing, heard, peeks}
use denote.Triple.Call.{calls_at}
use denote.Triple.Clauses.{Lasts, lasts}
use denote.Triple.Entry.{Vals}
use denote.Triple.Spec.{triple_of}
use denote.Triple.Table.{framed}
use denote.Triple.Walked.{Stays, walk_of, stay_dropped, gave_slice, Goes-spent_ref, Goes-dropped, Goes-gave_slice, ends_at}
use Rattle.std.proofs.raw_atomic.Walks.{proved}
use Rattle.lasso_c.specs.Members.{texts_seen}
use Rattle.lasso_c.specs.SharedLending.{KeepsHeld}
use Rattle.lasso_c.specs.contracts.shared.handle.LassoShared as LassoShared
use Rattle.lasso_c.specs.contracts.lending.LassoText as LassoText
use Rattle.lasso_c.specs.contracts.shared.lending.Lent as Lent
use Rattle.lasso_c.proofs.shared.lending.Lent.TheLaws as laws
use Rattle.lasso_c.specs.contracts.shared.lending.lasso_shared_texts as f
use Rattle.lasso_c.specs.contracts.shared.lending.lend_from as g
use Rattle.lasso_c.specs.contracts.shared.lending.count_of as h
use Rattle.lasso_c.proofs.shared.lending.lend_from.Met as lend_from
use Rattle.lasso_c.proofs.shared.lending.count_of.Met as count_of
use Rattle.lasso_c.proofs.shared.lending.lasso_shared_texts.Statement.{statement}
use Rattle.lasso_c.proofs.shared.lending.lasso_shared_texts.Code as code

abbrev stayed : Stays f.ended.signature.params f.ended.kept
stayed = (stay_dropped (mut_ref_to (0 ∷ []) tt (plain (λ _. LassoShared.the_row))) no, (stay_dropped (plain (λ _. usize)) yes, (gave_slice (1 ∷ []) tt (plain (λ κs. LassoText.the_row (named_lft 2 0 tt κs))), tt)))

pub lasso_shared_texts_spec : {M : Type 1} → statement M
lasso_shared_texts_spec 𝓤 𝓛 𝓜 𝓡 wired =
    let c = f.clauses 𝓛 𝓜.mem 𝓡.returns in let W = walk_of 𝓛 f.ended stayed c in let 𝓣 = tables 𝓤 𝓛.H 𝓜 𝓡 𝓡.env in
    proved 𝓛 f.ended stayed c 𝓜 𝓡
    (Goes-spent_ref 𝓛 2 (0 ∷ []) tt (plain (λ _. LassoShared.the_row)), (Goes-dropped 𝓛 2 (plain (λ _. usize)) yes (λ κs x w. refl), (Goes-gave_slice 𝓛 2 1 tt (plain (λ κs. LassoText.the_row (named_lft 2 0 tt κs))), tt)))
    f.Key.name code.function (code.unfolded 𝓤 𝓛.H 𝓜 𝓡 wired)
    (λ κs. (mut_vals, (uint_vals w64, (mut_slice_vals, tt))))
    (λ κs. (mut_Tells (named 0) κs.0 LassoShared.the_row, (uint_Tells w64, (mut_slice_Tells (named 1) κs.1.0 (LassoText.the_row (named_lft 2 0 tt κs)), tt))))
    (λ κs qs bounds a _ are.
    let vs : Vals f.signature κs = (mut_vals a.0, (uint_vals w64 a.1.0, (mut_slice_vals a.1.1.0, tt))) in
    let y : W.Ghost = ((κs, qs, bounds, a, vs), tt) in
    let L : RattleType = Lent.the_row (named_lft 2 0 tt κs) in
    let T : RattleType = LassoText.the_row (named_lft 2 0 tt κs) in
    let all = texts_seen a.0.now.seat.value in let old = a.1.1.0.now in
    let Count : ℕ → Type 0 = λ n. n ≡ min (length old) (length all - a.1.0) in
    let Texts : ℕ → List T.Denot → Type 0 = λ n ts. take n (map (λ t. t.bytes.now) ts) ≡ take n (drop a.1.0 all) in
    let Rest : ℕ → List T.Denot → Type 0 = λ n ts. drop n ts ≡ drop n old in
    let count_fits : WT (vint w64 (length old)) = record { fits = are.1.1.0.0.1.0 } in
    let t₀ : Item 𝓤 = ‵ (flft κs.0 qs.0) in let t₁ : Item 𝓤 = ‵ (flft κs.1.0 qs.1.0) in
    let G = triple_of 𝓛 g.signature (g.spec 𝓛 𝓜.mem 𝓡.returns) in
    let z : G.Ghost = ((κs, qs, bounds, a, vs), tt) in
    qed 𝓛 (raw (G.pre z) ∷ []) ∵ enter ! _ _ _ _ _ $ alloc_all ! (λ l. pass_all ! refl ((tt, tt), ((tt, record { fits = are.1.0.1 }), ((tt, (tt, (count_fits, tt))), tt))) $
    sets ! (addr ! (through ! refl (stop !))) refl (tt, tt) $
    -- the slice's pointer and its length, anew
    sets ! (addr ! (from ! (fld ! refl (hop ! (look_in_at ! 3 (sub ! 0 refl (whole !))) (stop !))))) refl (tt, tt) $
    sets ! (agg ! (and_then ! (get ! refl) (and_then ! (get_in ! (fld ! refl (stop !)) (sub ! 1 refl (whole !))) (no_more !)))) refl (tt, (tt, (count_fits, tt))) $
    calls_at ! (framed 𝓤 𝓛.H 𝓜 𝓣) G (lend_from.met 𝓤 𝓛 𝓜 𝓡 (code.calls-lasso_c::shared::lending::lend_from 𝓡.env wired)) z
    (and_then ! (get ! refl) (and_then ! (get ! refl) (and_then ! (get ! refl) (no_more !)))) (λ v.
    use1 𝓛 (later (some (λ (r : L.Denot). ((t₀ ⊛ t₁ ⊛ ‵ ftrue) ⊛ ‵ (L.own_val r (v ∷ []))) ⊛
    some (λ (ws : Lasts g.ended κs a). ‵ (lasts g.ended κs a ws) ⊛ ‵ (KeepsHeld a.0) ⊛ raw (fact 𝓤 (Count r.count)) ⊛ raw (fact 𝓤 (Texts r.count ws.1.1.0)) ⊛ raw (fact 𝓤 (Rest r.count ws.1.1.0)))))) (id⊢ 𝓤 _) $
    await ! tt $ pick ! (λ r. split ! $ split ! $ split3 ! $ move ! (3 ∷ []) $
    -- [what is lent; the tokens, in three entries; what the call ensures]
    peeks ! L (Is L) (shows 𝓛 L) r (v ∷ []) (λ is. lands_as ! refl refl ((((laws.the_row_laws (named_lft 2 0 tt κs)).lawful 𝓛).typed r (v ∷ []) is).0) $
    let H = triple_of 𝓛 h.signature (h.spec 𝓛 𝓜.mem 𝓡.returns) in
    let zh : H.Ghost = (((κs.0, tt), (qs.0, tt), tt, (r, tt), (v ∷ [], tt)), tt) in
    nothing ! $ move ! (1 ∷ 0 ∷ []) $ join ! $ nothing ! $ move ! (2 ∷ 0 ∷ []) $ join ! $ join ! $ nothing ! $ move ! (1 ∷ 0 ∷ []) $
    use2 𝓛 (raw (H.pre zh)) (id⊢ 𝓤 _) $
    calls_at ! (framed 𝓤 𝓛.H 𝓜 𝓣) H (count_of.met 𝓤 𝓛 𝓜 𝓡 (code.calls-lasso_c::shared::lending::count_of 𝓡.env wired)) zh
    (and_then ! (get ! refl) (no_more !)) (λ u.
    use1 𝓛 (later (some (λ (s : ℕ). ((t₀ ⊛ ‵ ftrue) ⊛ ‵ (usize.own_val s (u ∷ []))) ⊛
    some (λ (hs : Lasts h.ended (κs.0, tt) (r, tt)). ‵ (lasts h.ended (κs.0, tt) (r, tt) hs) ⊛ raw (fact 𝓤 (s ≡ r.count)))))) (id⊢ 𝓤 _) $
    await ! tt $ pick ! (λ s. split ! $ split ! $ split ! $ move ! (3 ∷ []) $ pick ! (λ hs. split ! $ leave ! $ heard ! (s ≡ r.count) (λ same. move ! (2 ∷ []) $
    -- [the count; two entries of tokens; two more; what the first call ensures]
    peeks ! usize (Is usize) (shows 𝓛 usize) s (u ∷ []) (λ is'. lands_as ! refl refl (((uint_Lawful 𝓛 w64).typed s (u ∷ []) is').0) $
    returns ! (look_at ! 0 refl) $ free_all ! refl $ move ! (5 ∷ []) $ pick ! (λ ws. split ! $ move ! (1 ∷ []) $ split3 ! $
    move ! (1 ∷ []) $ heard ! (Count r.count) (λ count. move ! (1 ∷ []) $ split ! $ heard ! (Texts r.count ws.1.1.0) (λ texts. heard ! (Rest r.count ws.1.1.0) (λ rest.
    -- [what the handle keeps; the last values; the count; the tokens, in four entries]. The slice's length is taken out of its last value
    move ! (1 ∷ []) $ fsplit ! $ leave ! $ fsplit ! $ leave ! $ fsplit ! $ fsplit ! $ fsplit ! $ move ! (1 ∷ []) $ feq_l ! (λ fits.
    fjoin ! $ fjoin ! $ nothing ! $ fjoin ! $ nothing ! $ fjoin ! $
    -- [the last values; what the handle keeps; the count; the tokens, in four entries]
    suffices ! _ (ends_at 𝓛 f.ended stayed c y u s ws (tt, (tt, (fits, tt)))) $
    use0 𝓛 (raw (fact 𝓤 (Rest s ws.1.1.0))) (fact_i 𝓤 (Rest s ws.1.1.0) (emp 𝓤) (subst (λ (n : ℕ). Rest n ws.1.1.0) (sym same) rest)) $
    use0 𝓛 (raw (fact 𝓤 (Texts s ws.1.1.0))) (fact_i 𝓤 (Texts s ws.1.1.0) (emp 𝓤) (subst (λ (n : ℕ). Texts n ws.1.1.0) (sym same) texts)) $
    use0 𝓛 (raw (fact 𝓤 (Count s))) (fact_i 𝓤 (Count s) (emp 𝓤) (same ∙ count)) $
    keep ! (6 ∷ 8 ∷ 9 ∷ 3 ∷ 5 ∷ 4 ∷ 0 ∷ 1 ∷ 2 ∷ []) $ group ! 3 $ group ! 3 $ done !)))))))))))))))
