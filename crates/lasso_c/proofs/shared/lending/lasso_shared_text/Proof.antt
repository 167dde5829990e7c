-- `lasso_shared_text` passes all that it is given on to `lend_text`, whose clauses are its own, and returns the status of what comes back.
-- Both references are given up for good: the one to the handle is lent on, and of the text's only its last value is left.
use Rattle.std.proofs.Common.{◌≡◌, ℕ, [], ◌∷◌, refl, sym, ◌∙◌, w32}
use Rattle.std.specs.Prelude.{Some, slice_get}
use mir.Syntax.{named}
use base.Logic.{emp, id⊢}
use base.Fml.{ftrue, flft}
use contract.Monad.{fact, fact_i}
use contract.Running.{tables}
use types.Kit.{Item, ‵, raw, ◌⊛◌, some, later, ◌$◌, ◌∵◌, !, qed, done, move, keep, drop, use0, use1, use2, split, split3, join, pick, await, suffices, group}
use types.Run.{enter, addr, stop, no_more, and_then, returns}
use types.ByLocal.{alloc_all, pass_all, free_all, look_at, get, through, sets, lands_as}
use denote.Builtin.{u32}
use denote.Exit.{yes, no}
use denote.Laws.{Is, shows}
use denote.Plain.{uint_vals, uint_Tells, uint_Lawful}
use denote.RattleType.{RattleType}
use denote.Ref.{mut_vals, mut_Tells}
use denote.Signature.{plain, mut_ref_to, named_lft}
use denote.Steps.{nothing, heard, peeks}
use denote.Triple.Call.{calls_at}
use denote.Triple.Clauses.{Lasts, lasts}
use denote.Triple.Entry.{Vals}
use denote.Triple.Spec.{triple_of}
use denote.Triple.Table.{framed}
use denote.Triple.Walked.{Stays, walk_of, stay_dropped, gave_ref, Goes-spent_ref, Goes-dropped, Goes-gave_ref, ends_at}
use Rattle.std.proofs.raw_atomic.Walks.{proved}
use Rattle.lasso_c.specs.Members.{seen_lookup, texts_seen}
use Rattle.lasso_c.specs.SharedLending.{KeepsHeld}
use Rattle.lasso_c.specs.Status.{outcome_status}
use Rattle.lasso_c.specs.declared.status.TheConstants.{DONE}
use Rattle.lasso_c.specs.contracts.shared.handle.LassoShared as LassoShared
use Rattle.lasso_c.specs.contracts.lending.LassoText as LassoText
use Rattle.lasso_c.specs.contracts.shared.lending.Lent as Lent
use Rattle.lasso_c.proofs.shared.lending.Lent.TheLaws as laws
use Rattle.lasso_c.specs.contracts.shared.lending.lasso_shared_text as f
use Rattle.lasso_c.specs.contracts.shared.lending.lend_text as g
use Rattle.lasso_c.specs.contracts.shared.lending.status_of as h
use Rattle.lasso_c.proofs.shared.lending.lend_text.Met as lend_text
use Rattle.lasso_c.proofs.shared.lending.status_of.Met as status_of
use Rattle.lasso_c.proofs.shared.lending.lasso_shared_text.Statement.{statement}
use Rattle.lasso_c.proofs.shared.lending.lasso_shared_text.Code as code

abbrev stayed : Stays f.ended.signature.params f.ended.kept
stayed = (stay_dropped (mut_ref_to (0 ∷ []) tt (plain (λ _. LassoShared.the_row))) no, (stay_dropped (plain (λ _. u32)) yes, (gave_ref (1 ∷ []) tt (plain (λ κs. LassoText.the_row (named_lft 2 0 tt κs))), tt)))

pub lasso_shared_text_spec : {M : Type 1} → statement M
lasso_shared_text_spec 𝓤 𝓛 𝓜 𝓡 wired =
    let c = f.clauses 𝓛 𝓜.mem 𝓡.returns in let W = walk_of 𝓛 f.ended stayed c in let 𝓣 = tables 𝓤 𝓛.H 𝓜 𝓡 𝓡.env in
    proved 𝓛 f.ended stayed c 𝓜 𝓡
    (Goes-spent_ref 𝓛 2 (0 ∷ []) tt (plain (λ _. LassoShared.the_row)), (Goes-dropped 𝓛 2 (plain (λ _. u32)) yes (λ κs x w. refl), (Goes-gave_ref 𝓛 2 1 tt (plain (λ κs. LassoText.the_row (named_lft 2 0 tt κs))), tt)))
    f.Key.name code.function (code.unfolded 𝓤 𝓛.H 𝓜 𝓡 wired)
    (λ κs. (mut_vals, (uint_vals w32, (mut_vals, tt))))
    (λ κs. (mut_Tells (named 0) κs.0 LassoShared.the_row, (uint_Tells w32, (mut_Tells (named 1) κs.1.0 (LassoText.the_row (named_lft 2 0 tt κs)), tt))))
    (λ κs qs bounds a _ are.
    let vs : Vals f.signature κs = (mut_vals a.0, (uint_vals w32 a.1.0, (mut_vals a.1.1.0, tt))) in
    let y : W.Ghost = ((κs, qs, bounds, a, vs), tt) in
    let L : RattleType = Lent.the_row (named_lft 2 0 tt κs) in
    let T : RattleType = LassoText.the_row (named_lft 2 0 tt κs) in
    let Status : ℕ → Type 0 = λ s. s ≡ outcome_status (seen_lookup a.0.now.seat.value a.1.0) in
    let Text : ℕ → T.Denot → Type 0 = λ s t. s ≡ DONE → slice_get (texts_seen a.0.now.seat.value) a.1.0 ≡ Some t.bytes.now in
    let Kept : ℕ → T.Denot → Type 0 = λ s t. ¬ (s ≡ DONE) → t ≡ a.1.1.0.now in
    let t₀ : Item 𝓤 = ‵ (flft κs.0 qs.0) in let t₁ : Item 𝓤 = ‵ (flft κs.1.0 qs.1.0) in
    let G = triple_of 𝓛 g.signature (g.spec 𝓛 𝓜.mem 𝓡.returns) in
    let z : G.Ghost = ((κs, qs, bounds, a, vs), tt) in
    qed 𝓛 (raw (G.pre z) ∷ []) ∵ enter ! _ _ _ _ _ $ alloc_all ! (λ l. pass_all ! refl ((tt, tt), ((tt, record { fits = are.1.0.1 }), ((tt, tt), tt))) $
    sets ! (addr ! (through ! refl (stop !))) refl (tt, tt) $
    sets ! (addr ! (through ! refl (stop !))) refl (tt, tt) $
    calls_at ! (framed 𝓤 𝓛.H 𝓜 𝓣) G (lend_text.met 𝓤 𝓛 𝓜 𝓡 (code.calls-lasso_c::shared::lending::lend_text 𝓡.env wired)) z
    (and_then ! (get ! refl) (and_then ! (get ! refl) (and_then ! (get ! refl) (no_more !)))) (λ v.
    use1 𝓛 (later (some (λ (r : L.Denot). ((t₀ ⊛ t₁ ⊛ ‵ ftrue) ⊛ ‵ (L.own_val r (v ∷ []))) ⊛
    some (λ (ws : Lasts g.ended κs a). ‵ (lasts g.ended κs a ws) ⊛ ‵ (KeepsHeld a.0) ⊛ raw (fact 𝓤 (Status r.status)) ⊛ raw (fact 𝓤 (Text r.status ws.1.1.0)) ⊛ raw (fact 𝓤 (Kept r.status ws.1.1.0)))))) (id⊢ 𝓤 _) $
    await ! tt $ pick ! (λ r. split ! $ split ! $ split3 ! $ move ! (3 ∷ []) $
    -- [what is lent; the tokens, in three entries; what the call ensures]
    peeks ! L (Is L) (shows 𝓛 L) r (v ∷ []) (λ is. lands_as ! refl refl ((((laws.the_row_laws (named_lft 2 0 tt κs)).lawful 𝓛).typed r (v ∷ []) is).0) $
    let H = triple_of 𝓛 h.signature (h.spec 𝓛 𝓜.mem 𝓡.returns) in
    let zh : H.Ghost = (((κs.0, tt), (qs.0, tt), tt, (r, tt), (v ∷ [], tt)), tt) in
    nothing ! $ move ! (1 ∷ 0 ∷ []) $ join ! $ nothing ! $ move ! (2 ∷ 0 ∷ []) $ join ! $ join ! $ nothing ! $ move ! (1 ∷ 0 ∷ []) $
    use2 𝓛 (raw (H.pre zh)) (id⊢ 𝓤 _) $
    calls_at ! (framed 𝓤 𝓛.H 𝓜 𝓣) H (status_of.met 𝓤 𝓛 𝓜 𝓡 (code.calls-lasso_c::shared::lending::status_of 𝓡.env wired)) zh
    (and_then ! (get ! refl) (no_more !)) (λ u.
    use1 𝓛 (later (some (λ (s : ℕ). ((t₀ ⊛ ‵ ftrue) ⊛ ‵ (u32.own_val s (u ∷ []))) ⊛
    some (λ (hs : Lasts h.ended (κs.0, tt) (r, tt)). ‵ (lasts h.ended (κs.0, tt) (r, tt) hs) ⊛ raw (fact 𝓤 (s ≡ r.status)))))) (id⊢ 𝓤 _) $
    await ! tt $ pick ! (λ s. split ! $ split ! $ split ! $ move ! (3 ∷ []) $ pick ! (λ hs. split ! $ drop ! $ heard ! (s ≡ r.status) (λ same. move ! (2 ∷ []) $
    -- [the status; two entries of tokens; two more; what the first call ensures]
    peeks ! u32 (Is u32) (shows 𝓛 u32) s (u ∷ []) (λ is'. lands_as ! refl refl (((uint_Lawful 𝓛 w32).typed s (u ∷ []) is').0) $
    returns ! (look_at ! 0 refl) $ free_all ! refl $ move ! (5 ∷ []) $ pick ! (λ ws. split ! $ move ! (1 ∷ []) $ split3 ! $
    move ! (1 ∷ []) $ heard ! (Status r.status) (λ status. move ! (1 ∷ []) $ split ! $ heard ! (Text r.status ws.1.1.0) (λ text. heard ! (Kept r.status ws.1.1.0) (λ kept.
    -- [what the handle keeps; the last values; the status; the tokens, in four entries]
    suffices ! _ (ends_at 𝓛 f.ended stayed c y u s ws (tt, (tt, (tt, tt)))) $
    use0 𝓛 (raw (fact 𝓤 (Kept s ws.1.1.0))) (fact_i 𝓤 (Kept s ws.1.1.0) (emp 𝓤) (λ other. kept (λ e. other (same ∙ e)))) $
    use0 𝓛 (raw (fact 𝓤 (Text s ws.1.1.0))) (fact_i 𝓤 (Text s ws.1.1.0) (emp 𝓤) (λ e. text (sym same ∙ e))) $
    use0 𝓛 (raw (fact 𝓤 (Status s))) (fact_i 𝓤 (Status s) (emp 𝓤) (same ∙ status)) $
    keep ! (6 ∷ 8 ∷ 9 ∷ 4 ∷ 5 ∷ 3 ∷ 0 ∷ 1 ∷ 2 ∷ []) $ group ! 3 $ group ! 3 $ done !))))))))))))))
