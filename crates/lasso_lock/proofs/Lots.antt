-- Lots: one goes out, one comes back, and what having them all allows. Assumes `Logic`.
-- A lot of v is a share e of the name γ at v, with the same share of the token that v stands for. Shares are counted in 2 ^ 63 parts, so two
-- counts that add up give two shares that do. Two lots of one name agree on v, since the name is one thing at a time; a lot beside all of
-- them is a share too many. Whoever has all lots has the name whole, may set it to another v, and has the token whole.
use Rattle.std.proofs.Common.{◌≡◌, ℕ, zero, suc, ◌+◌, ◌-◌, ◌^◌, ◌<◌, ◌≤◌, [], ◌∷◌, arith}
use mathlib.Mathlib.Data.Part.{◌∈◌}
use seplogic.Ra.Ura.{Ura}
use seplogic.Ra.Constructions.Prod
use seplogic.Ra.Instances.Ag
use base.Share
use base.Fraction.{full_share}
use base.FractionLaws.{Counts, counts_some, Counts-op, Counts-all, not-OpDef-full_share}
use base.Stored.{coded_ℕ}
use base.SetCodes.{coded, SetCoded-set}
use base.Logic.{SProp, ent, sep, guard, guard_i, upd, upd_i}
use base.Fml.{GName, Share, Fml, ftrue, fex}
use types.Logic.{Logic, sem}
use types.Kit.{‵, raw, ◌⊛◌, given, ◌$◌, ◌∵◌, !, qed, by, move, keep, drop, split, fsplit, fjoin, fpick, fpack, learn, check, settle, suffices, use1, use2, done}
use types.Owned.{own_glued, own_sum, own_join, own_step}
use denote.Steps.{nothing}
use Rattle.lasso_lock.specs.Latches.{naming, named_as, token, lots_at, lots, lot, all_but}

module _ {M : Type 1} {𝓤 : Ura M} (𝓛 : Logic 𝓤) (γ : GName) where
  abbrev Pr : Type 2
  Pr = SProp 𝓤

  abbrev ◌⊢◌ : Pr → Pr → Type 1
  P ⊢ Q = ent 𝓤 P Q

  abbrev ◌∗◌ : Pr → Pr → Pr
  P ∗ Q = sep 𝓤 P Q

  abbrev ⟦◌⟧ : Fml → Pr
  ⟦ P ⟧ = sem 𝓛 P

  infix 26 ◌⊢◌
  infixr 35 ◌∗◌
  -- a share of the name is the sum of two at one v where the shares are
  adds : (v : ℕ) (r e f : Share) → r ∈ Share.op e f → ◌∈◌ {α = Share × ℕ} (r, v) (naming.op (e, v) (f, v))
  adds v r e f m = Prod.mk-mem-op Share.op (Ag.op (SetCoded-set (coded coded_ℕ))) {a = e} {a' = f} {x = r} {b = v} {b' = v} {y = v} m (Ag.idem (SetCoded-set (coded coded_ℕ)) v)

  token_cut : (v : ℕ) (r e f : Share) → r ∈ Share.op e f → ⟦ token v r ⟧ ⊢ ⟦ token v e ⟧ ∗ ⟦ token v f ⟧
  token_cut zero r e f m = qed 𝓛 (‵ ftrue ∷ []) ∵ nothing ! $ done !
  token_cut (suc a) r e f m = 𝓛.lfts.lft_cut (a ∷ []) r e f m

  token_glue : (v : ℕ) (r e f : Share) → r ∈ Share.op e f → ⟦ token v e ⟧ ∗ ⟦ token v f ⟧ ⊢ ⟦ token v r ⟧
  token_glue zero r e f m = qed 𝓛 (‵ ftrue ∷ ‵ ftrue ∷ []) ∵ drop ! $ done !
  token_glue (suc a) r e f m = 𝓛.lfts.lft_glue (a ∷ []) r e f m

  pub lots_in : (v k : ℕ) (e : Share) → Counts 63 e k → ⟦ lots_at γ v e ⟧ ⊢ ⟦ lots γ v k ⟧
  lots_in v k e c = qed 𝓛 (‵ (lots_at γ v e) ∷ []) ∵ fpack ! (Counts 63 e k) (λ _. lots_at γ v e) c $ fpack ! Share (λ s. fex (Counts 63 s k) (λ _. lots_at γ v s)) e $ done !

  cut_at : (v : ℕ) (r e f : Share) → r ∈ Share.op e f → ⟦ lots_at γ v r ⟧ ⊢ ⟦ lots_at γ v e ⟧ ∗ ⟦ lots_at γ v f ⟧
  cut_at v r e f m = qed 𝓛 (‵ (lots_at γ v r) ∷ []) ∵ fsplit ! $ use1 𝓛 (‵ (token v e) ⊛ ‵ (token v f)) (token_cut v r e f m) $ split ! $ move ! (2 ∷ []) $
      use1 𝓛 (‵ (named_as γ v e) ⊛ ‵ (named_as γ v f)) (𝓛.algebras.own_cut naming γ (e, v) (f, v) (r, v) (adds v r e f m)) $ split ! $
      move ! (3 ∷ 1 ∷ []) $ fjoin ! $ move ! (2 ∷ 1 ∷ []) $ fjoin ! $ done !

  glue_at : (v : ℕ) (r e f : Share) → r ∈ Share.op e f → ⟦ lots_at γ v e ⟧ ∗ ⟦ lots_at γ v f ⟧ ⊢ ⟦ lots_at γ v r ⟧
  glue_at v r e f m = qed 𝓛 (‵ (lots_at γ v e) ∷ ‵ (lots_at γ v f) ∷ []) ∵ fsplit ! $ move ! (2 ∷ []) $ fsplit ! $ move ! (2 ∷ 0 ∷ []) $
      use2 𝓛 (‵ (token v r)) (token_glue v r e f m) $ move ! (2 ∷ 1 ∷ []) $ use2 𝓛 (‵ (named_as γ v r)) (own_join 𝓛 naming γ (e, v) (f, v) (r, v) (adds v r e f m)) $ move ! (1 ∷ 0 ∷ []) $ fjoin ! $ done !

  cuts : (v i j k : ℕ) → 0 < i → 0 < j → i + j ≡ k → k ≤ 2 ^ 63 → ⟦ lots γ v k ⟧ ⊢ ⟦ lots γ v i ⟧ ∗ ⟦ lots γ v j ⟧
  cuts v i j k pi pj total low = let e = counts_some 63 i pi (omega arith) in let f = counts_some 63 j pj (omega arith) in
      qed 𝓛 (‵ (lots γ v k) ∷ []) ∵ fpick ! (λ r. fpick ! (λ c. use1 𝓛 (‵ (lots_at γ v e.0) ⊛ ‵ (lots_at γ v f.0)) (cut_at v r e.0 f.0 (Counts-op 63 e.0 f.0 r i j k e.1 f.1 c total)) $ split ! $
      use1 𝓛 (‵ (lots γ v i)) (lots_in v i e.0 e.1) $ move ! (1 ∷ []) $ use1 𝓛 (‵ (lots γ v j)) (lots_in v j f.0 f.1) $ move ! (1 ∷ 0 ∷ []) $ done !))

  glues_at : (v i j k : ℕ) (r : Share) → Counts 63 r k → i + j ≡ k → ⟦ lots γ v i ⟧ ∗ ⟦ lots γ v j ⟧ ⊢ ⟦ lots_at γ v r ⟧
  glues_at v i j k r c total = qed 𝓛 (‵ (lots γ v i) ∷ ‵ (lots γ v j) ∷ []) ∵ fpick ! (λ e. fpick ! (λ ce. move ! (1 ∷ []) $ fpick ! (λ f. fpick ! (λ cf. move ! (1 ∷ 0 ∷ []) $
      use2 𝓛 (‵ (lots_at γ v r)) (glue_at v r e f (Counts-op 63 e f r i j k ce cf c total)) $ done !))))

  -- one lot goes out
  pub lot_out : (v m : ℕ) → m < 2 ^ 62 → ⟦ all_but m γ v ⟧ ⊢ ⟦ lot γ v ⟧ ∗ ⟦ all_but (suc m) γ v ⟧
  lot_out v m few = cuts v 1 (2 ^ 63 - suc m) (2 ^ 63 - m) (omega arith) (omega arith) (omega arith) (omega arith)

  -- and comes back
  pub lot_in : (v m : ℕ) → m < 2 ^ 62 → ⟦ lot γ v ⟧ ∗ ⟦ all_but (suc m) γ v ⟧ ⊢ ⟦ all_but m γ v ⟧
  lot_in v m few = let r = counts_some 63 (2 ^ 63 - m) (omega arith) (omega arith) in
      qed 𝓛 (‵ (lot γ v) ∷ ‵ (all_but (suc m) γ v) ∷ []) ∵ use2 𝓛 (‵ (lots_at γ v r.0)) (glues_at v 1 (2 ^ 63 - suc m) (2 ^ 63 - m) r.0 r.1 (omega arith)) $ by ! (lots_in v (2 ^ 63 - m) r.0 r.1)

  -- a lot and what lacks some are of one v
  pub lots_agree : (u v i j : ℕ) → ⟦ lots γ u i ⟧ ∗ ⟦ lots γ v j ⟧ ⊢ guard 𝓤 (u ≡ v) (⟦ lots γ u i ⟧ ∗ ⟦ lots γ v j ⟧)
  lots_agree u v i j = qed 𝓛 (‵ (lots γ u i) ∷ ‵ (lots γ v j) ∷ []) ∵ fpick ! (λ e. fpick ! (λ ce. fsplit ! $ move ! (2 ∷ []) $ fpick ! (λ f. fpick ! (λ cf. fsplit ! $ move ! (3 ∷ 1 ∷ []) $
      let Z : Pr = ⟦ named_as γ u e ⟧ ∗ ⟦ named_as γ v f ⟧ in use2 𝓛 (given (u ≡ v) (‵ (named_as γ u e) ⊛ ‵ (named_as γ v f))) (own_sum 𝓛 naming γ (e, u) (f, v) (guard 𝓤 (u ≡ v) Z) (λ x m. guard_i 𝓤 (u ≡ v) Z m.0.1)) $
      learn ! (λ same. check ! same $ split ! $ move ! (2 ∷ 1 ∷ []) $ fjoin ! $ use1 𝓛 (‵ (lots γ v j)) (lots_in v j f cf) $ move ! (2 ∷ 1 ∷ []) $ fjoin ! $ use1 𝓛 (‵ (lots γ u i)) (lots_in u i e ce) $ done !)))))

  pub lots_whole : (v : ℕ) → ⟦ all_but 0 γ v ⟧ ⊢ ⟦ lots_at γ v full_share ⟧
  lots_whole v = qed 𝓛 (‵ (all_but 0 γ v) ∷ []) ∵ use1 𝓛 (‵ (lot γ v) ⊛ ‵ (all_but 1 γ v)) (lot_out v 0 (omega arith)) $ split ! $
      by ! (glues_at v 1 (2 ^ 63 - 1) (2 ^ 63) full_share (Counts-all 63) (omega arith))

  -- all lots and one more
  pub too_many : (u v k : ℕ) (Z : Pr) → ⟦ all_but 0 γ u ⟧ ∗ ⟦ lots γ v k ⟧ ⊢ Z
  too_many u v k Z = qed 𝓛 (‵ (all_but 0 γ u) ∷ ‵ (lots γ v k) ∷ []) ∵ use1 𝓛 (‵ (lots_at γ u full_share)) (lots_whole u) $ fsplit ! $ move ! (2 ∷ []) $ fpick ! (λ e. fpick ! (λ _. fsplit ! $ keep ! (3 ∷ 1 ∷ []) $
      by ! (own_glued 𝓛 naming γ (full_share, u) (e, v) Z (λ x m. absurd (not-OpDef-full_share e m.0.0)))))

  -- with all lots the name may change
  pub renamed : (u v : ℕ) → ⟦ all_but 0 γ u ⟧ ∗ ⟦ token v full_share ⟧ ⊢ upd 𝓤 (⟦ all_but 0 γ v ⟧ ∗ ⟦ token u full_share ⟧)
  renamed u v = let Z : Pr = ⟦ all_but 0 γ v ⟧ ∗ ⟦ token u full_share ⟧ in
      qed 𝓛 (‵ (all_but 0 γ u) ∷ ‵ (token v full_share) ∷ []) ∵ use1 𝓛 (‵ (lots_at γ u full_share)) (lots_whole u) $ fsplit ! $ move ! (1 ∷ []) $
      use1 𝓛 (raw (upd 𝓤 ⟦ named_as γ v full_share ⟧)) (own_step 𝓛 naming γ (full_share, u) (full_share, v) (λ f d. absurd (not-OpDef-full_share f.0 d.0))) $
      settle 𝓛 Z (‵ (named_as γ v full_share)) $ suffices ! Z (upd_i 𝓤 Z) $ move ! (2 ∷ 0 ∷ []) $ fjoin ! $ use1 𝓛 (‵ (all_but 0 γ v)) (lots_in v (2 ^ 63) full_share (Counts-all 63)) $ done !
