-- One value as one machine value, and two as a pair. Assumes `Logic`.
-- A type parameter has one machine type, so what is owned of a value says that its list of machine values has one entry, which is well typed.
-- The content of a latch is opened to that one entry and its memory, and any entry that is a value that fits makes a content again.
use Rattle.std.proofs.Common.{◌≡◌, ℕ, ◌+◌, List, [], ◌∷◌, ◌++◌, refl}
use seplogic.Ra.Ura.{Ura}
use mir.Val.{Val, vstruct, vcons, vnil, of_list}
use base.Fraction.{full_share}
use base.Logic.{SProp, ent, sep, ex, guard}
use base.Fml.{Fml, fsep, feq, fex}
use types.Logic.{Logic, sem}
use types.Kit.{‵, some, given, ◌$◌, ◌∵◌, !, qed, by, move, drop, fsplit, fjoin, fjoin3, fpick, fpack, pick, learn, show, check, use1, rewrite, feq_i, done}
use denote.RattleType.{RattleType, Valss, owns}
use denote.Laws.{Is, shows}
use denote.Memory.{part_of, cell_at}
use denote.Steps.{nothing, peeks}
use Rattle.core.proofs.mem.Param.{El, R as row_of, lawful, Good, one}
use Rattle.lasso_lock.specs.Latches.{value_at, content}
use Rattle.lasso_lock.proofs.Lending.{stored_fits}

module _ {M : Type 1} {𝓤 : Ura M} (𝓛 : Logic 𝓤) where
  abbrev ⟦◌⟧ : Fml → SProp 𝓤
  ⟦ P ⟧ = sem 𝓛 P

  -- what a tuple of two owns, at the machine value r
  abbrev pub of_pair : (A B : RattleType) → A.Denot → B.Denot → Val → Fml
  of_pair A B x y r = fex (Valss (A ∷ B ∷ [])) (λ vss. fsep (feq (List Val) (r ∷ []) (vstruct (of_list (vss.0 ++ (vss.1.0 ++ []))) ∷ [])) (owns (A ∷ B ∷ []) (x, (y, tt)) vss))

  pub paired : (A B : RattleType) (x : A.Denot) (y : B.Denot) (u v : Val) → ent 𝓤 (sep 𝓤 ⟦ A.own_val x (u ∷ []) ⟧ ⟦ B.own_val y (v ∷ []) ⟧) ⟦ of_pair A B x y (vstruct (vcons u (vcons v vnil))) ⟧
  paired A B x y u v = let r : Val = vstruct (vcons u (vcons v vnil)) in
      qed 𝓛 (‵ (A.own_val x (u ∷ [])) ∷ ‵ (B.own_val y (v ∷ [])) ∷ []) ∵ nothing ! $ move ! (1 ∷ 2 ∷ 0 ∷ []) $ fjoin3 ! $ feq_i ! (List Val) (r ∷ []) (r ∷ []) refl $ fjoin ! $
      fpack ! (Valss (A ∷ B ∷ [])) (λ vss. fsep (feq (List Val) (r ∷ []) (vstruct (of_list (vss.0 ++ (vss.1.0 ++ []))) ∷ [])) (owns (A ∷ B ∷ []) (x, (y, tt)) vss)) (u ∷ [], (v ∷ [], tt)) $ done !

  module _ (E : El) where
    abbrev R : RattleType
    R = row_of E

    abbrev Alone : R.Denot → List Val → Val → SProp 𝓤
    Alone x vs u = guard 𝓤 (Good E u × (vs ≡ u ∷ [])) ⟦ R.own_val x (u ∷ []) ⟧

    pub alone : (x : R.Denot) (vs : List Val) → ent 𝓤 ⟦ R.own_val x vs ⟧ (ex 𝓤 (Alone x vs))
    alone x vs = qed 𝓛 (‵ (R.own_val x vs) ∷ []) ∵ peeks ! R (Is R) (shows 𝓛 R) x vs (λ told. let only = one E vs ((lawful E 𝓛).typed x vs told) in
        rewrite ! 0 (λ (us : List Val). ‵ (R.own_val x us)) only.1 refl $ show ! (Alone x vs) only.0 $ check ! (only.2, only.1) $ done !)

    module _ (fits : R.Denot → Type 0) (b o : ℕ) where
      abbrev pub In_place : R.Denot × Val → SProp 𝓤
      In_place s = guard 𝓤 (fits s.0 × Good E s.1) (sep 𝓤 ⟦ cell_at full_share R.mir (s.1 ∷ []) b (o + value_at R) ⟧ ⟦ R.own_val s.0 (s.1 ∷ []) ⟧)

      pub content_opens : ent 𝓤 ⟦ content R fits b o ⟧ (ex 𝓤 In_place)
      unfolding part_of
      content_opens = let e : ℕ = o + value_at R in qed 𝓛 (‵ (content R fits b o) ∷ []) ∵ fpick ! (λ x. fsplit ! $ fpick ! (λ fit. drop ! $ fpick ! (λ vs. fsplit ! $ move ! (1 ∷ []) $
          use1 𝓛 (some (λ (u : Val). given (Good E u × (vs ≡ u ∷ [])) (‵ (R.own_val x (u ∷ []))))) (alone x vs) $ pick ! (λ u. learn ! (λ only. move ! (1 ∷ []) $
          rewrite ! 0 (λ (us : List Val). ‵ (cell_at full_share R.mir us b e)) only.1 refl $ show ! In_place (x, u) $ check ! (fit, only.0) $ done !)))))

      pub content_closes : (x : R.Denot) (u : Val) → fits x → ent 𝓤 (sep 𝓤 ⟦ cell_at full_share R.mir (u ∷ []) b (o + value_at R) ⟧ ⟦ R.own_val x (u ∷ []) ⟧) ⟦ content R fits b o ⟧
      unfolding part_of
      content_closes x u fit = let e : ℕ = o + value_at R in qed 𝓛 (‵ (cell_at full_share R.mir (u ∷ []) b e) ∷ ‵ (R.own_val x (u ∷ [])) ∷ []) ∵ fjoin ! $
          fpack ! (List Val) (λ us. fsep (cell_at full_share R.mir us b e) (R.own_val x us)) (u ∷ []) $ by ! (stored_fits 𝓛 R fits b o x fit)
