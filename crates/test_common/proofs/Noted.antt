-- Calls of `refuses`, `gives_out` and `takes_back`: what each needs, and what its caller gets. Assumes
-- `Logic`.
use Rattle.std.proofs.Common.{◌≡◌, ℕ, ◌^◌, ◌<◌, List, [], ◌∷◌, refl, ap, w64}
use mathlib.Core.Bool.{Bool}
use seplogic.Ra.Ura.{Ura}
use mir.Val.{Val, vunit, vbool, vint, vptr}
use base.Logic.{SProp, ent, sep, ex, guard, id⊢}
use base.Fml.{Lft, Share, ftrue, fsep, flft}
use prog.Memory.{Memory}
use prog.Routine.{Routine}
use types.Logic.{Logic, sem}
use contract.Monad.{Fun}
use types.Kit.{‵, ◌⊛◌, some, later, ◌$◌, ◌∵◌, !, qed, move, keep, use1, split, join, pick, fjoin, feq_i, feq_l, flt_i, check, show, await, updating, now as at_once, done}
use denote.RattleType.{RattleType}
use denote.Memory.{hidden_shr}
use denote.Builtin.{bool, unit}
use denote.Steps.{nothing, only}
use denote.Triple.Statement.{Contract}
use denote.Triple.Spec.{triple_of}
use Rattle.test_common.specs.contracts.refusing.Requests as requests
use Rattle.test_common.specs.contracts.refusing.refuses as RF
use Rattle.test_common.specs.contracts.refusing.gives_out as GO
use Rattle.test_common.specs.contracts.refusing.takes_back as TB

abbrev pub Requested : RattleType
Requested = requests.the_row

module _ {M : Type 1} {𝓤 : Ura M} (𝓛 : Logic 𝓤) (at_mem : Memory → SProp 𝓤) (run : Routine → Fun 𝓤) where
  abbrev pub Refuses : Contract 𝓤
  Refuses = triple_of 𝓛 RF.signature (RF.spec 𝓛 at_mem run)

  abbrev pub Out : Contract 𝓤
  Out = triple_of 𝓛 GO.signature (GO.spec 𝓛 at_mem run)

  abbrev pub Back : Contract 𝓤
  Back = triple_of 𝓛 TB.signature (TB.spec 𝓛 at_mem run)

  abbrev pub at_refuses : Lft → Share → ℕ × ℕ → Requested.Denot → Refuses.Ghost
  at_refuses κ q c w = (((κ, tt), (q, tt), tt, (record { ref_ptr = c; now = w }, tt), (vptr c.0 c.1 ∷ [], tt)), tt)

  abbrev pub at_out : Lft → Share → ℕ × ℕ → Requested.Denot → ℕ → Out.Ghost
  at_out κ q c w n = (((κ, tt), (q, tt), tt, (record { ref_ptr = c; now = w }, (n, tt)), (vptr c.0 c.1 ∷ [], (vint w64 n ∷ [], tt))), tt)

  abbrev pub at_back : Lft → Share → ℕ × ℕ → Requested.Denot → ℕ → Back.Ghost
  at_back κ q c w n = (((κ, tt), (q, tt), tt, (record { ref_ptr = c; now = w }, (n, tt)), (vptr c.0 c.1 ∷ [], (vint w64 n ∷ [], tt))), tt)

module _ {M : Type 1} {𝓤 : Ura M} (𝓛 : Logic 𝓤) (at_mem : Memory → SProp 𝓤) (run : Routine → Fun 𝓤) (κ : Lft) (q : Share) (c : ℕ × ℕ) (w : Requested.Denot) where
  open 𝓛 use {H, A}

  pub Refuses-goes : ent 𝓤 (sep 𝓤 (sem 𝓛 (hidden_shr Requested κ w c.0 c.1)) (A.lft κ q)) ((Refuses 𝓛 at_mem run).pre (at_refuses 𝓛 at_mem run κ q c w))
  Refuses-goes =
      qed 𝓛 (‵ (hidden_shr Requested κ w c.0 c.1) ∷ ‵ (flft κ q) ∷ []) ∵ feq_i ! (List Val) (vptr c.0 c.1 ∷ []) (vptr c.0 c.1 ∷ []) refl $ fjoin ! $
      nothing ! $ move ! (1 ∷ []) $ fjoin ! $ nothing ! $ move ! (2 ∷ []) $ join ! $ join ! $ nothing ! $ move ! (1 ∷ []) $ done !

  abbrev pub Told : Val → Bool → SProp 𝓤
  Told v y = guard 𝓤 (v ≡ vbool y) (A.lft κ q)

  pub Refuses-gives : (v : Val) → ent 𝓤 ((Refuses 𝓛 at_mem run).post (at_refuses 𝓛 at_mem run κ q c w) v) (H.⇛ (ex 𝓤 (Told v)))
  Refuses-gives v =
      qed 𝓛 (types.Kit.raw ((Refuses 𝓛 at_mem run).post (at_refuses 𝓛 at_mem run κ q c w) v) ∷ []) ∵ updating ! $
      use1 𝓛 (later (some (λ (r : Bool). ((‵ (flft κ q) ⊛ ‵ ftrue) ⊛ ‵ (bool.own_val r (v ∷ []))) ⊛ some (λ (ws : Unit {0} × Unit {0}). ‵ (fsep ftrue ftrue) ⊛ ‵ ftrue)))) (id⊢ 𝓤 _) $ await ! tt $ pick ! (λ r.
      split ! $ split ! $ move ! (1 ∷ []) $ feq_l ! (λ e. split ! $ at_once ! $ show ! (Told v) r $ check ! (ap only e) $ keep ! (0 ∷ []) $ done !))

module _ {M : Type 1} {𝓤 : Ura M} (𝓛 : Logic 𝓤) (at_mem : Memory → SProp 𝓤) (run : Routine → Fun 𝓤) (κ : Lft) (q : Share) (c : ℕ × ℕ) (w : Requested.Denot) (n : ℕ) where
  open 𝓛 use {H, A}

  pub Out-goes : n < 2 ^ 64 → ent 𝓤 (sep 𝓤 (sem 𝓛 (hidden_shr Requested κ w c.0 c.1)) (A.lft κ q)) ((Out 𝓛 at_mem run).pre (at_out 𝓛 at_mem run κ q c w n))
  Out-goes fn =
      qed 𝓛 (‵ (hidden_shr Requested κ w c.0 c.1) ∷ ‵ (flft κ q) ∷ []) ∵ nothing ! $ flt_i ! n (2 ^ 64) fn $ feq_i ! (List Val) (vint w64 n ∷ []) (vint w64 n ∷ []) refl $ fjoin ! $ fjoin ! $
      move ! (1 ∷ []) $ feq_i ! (List Val) (vptr c.0 c.1 ∷ []) (vptr c.0 c.1 ∷ []) refl $ fjoin ! $ fjoin ! $ nothing ! $ move ! (2 ∷ []) $ join ! $ join ! $ nothing ! $ move ! (1 ∷ []) $ done !

  pub Back-goes : n < 2 ^ 64 → ent 𝓤 (sep 𝓤 (sem 𝓛 (hidden_shr Requested κ w c.0 c.1)) (A.lft κ q)) ((Back 𝓛 at_mem run).pre (at_back 𝓛 at_mem run κ q c w n))
  Back-goes fn =
      qed 𝓛 (‵ (hidden_shr Requested κ w c.0 c.1) ∷ ‵ (flft κ q) ∷ []) ∵ nothing ! $ flt_i ! n (2 ^ 64) fn $ feq_i ! (List Val) (vint w64 n ∷ []) (vint w64 n ∷ []) refl $ fjoin ! $ fjoin ! $
      move ! (1 ∷ []) $ feq_i ! (List Val) (vptr c.0 c.1 ∷ []) (vptr c.0 c.1 ∷ []) refl $ fjoin ! $ fjoin ! $ nothing ! $ move ! (2 ∷ []) $ join ! $ join ! $ nothing ! $ move ! (1 ∷ []) $ done !

  pub Out-gives : (v : Val) → ent 𝓤 ((Out 𝓛 at_mem run).post (at_out 𝓛 at_mem run κ q c w n) v) (H.⇛ (guard 𝓤 (v ≡ vunit) (A.lft κ q)))
  Out-gives v =
      qed 𝓛 (types.Kit.raw ((Out 𝓛 at_mem run).post (at_out 𝓛 at_mem run κ q c w n) v) ∷ []) ∵ updating ! $
      use1 𝓛 (later (some (λ (r : Unit {0}). ((‵ (flft κ q) ⊛ ‵ ftrue) ⊛ ‵ (unit.own_val r (v ∷ []))) ⊛ some (λ (ws : Unit {0} × (Unit {0} × Unit {0})). ‵ (fsep ftrue (fsep ftrue ftrue)) ⊛ ‵ ftrue)))) (id⊢ 𝓤 _) $ await ! tt $ pick ! (λ r.
      split ! $ split ! $ move ! (1 ∷ []) $ feq_l ! (λ e. split ! $ at_once ! $ check ! (ap only e) $ keep ! (0 ∷ []) $ done !))

  pub Back-gives : (v : Val) → ent 𝓤 ((Back 𝓛 at_mem run).post (at_back 𝓛 at_mem run κ q c w n) v) (H.⇛ (guard 𝓤 (v ≡ vunit) (A.lft κ q)))
  Back-gives v =
      qed 𝓛 (types.Kit.raw ((Back 𝓛 at_mem run).post (at_back 𝓛 at_mem run κ q c w n) v) ∷ []) ∵ updating ! $
      use1 𝓛 (later (some (λ (r : Unit {0}). ((‵ (flft κ q) ⊛ ‵ ftrue) ⊛ ‵ (unit.own_val r (v ∷ []))) ⊛ some (λ (ws : Unit {0} × (Unit {0} × Unit {0})). ‵ (fsep ftrue (fsep ftrue ftrue)) ⊛ ‵ ftrue)))) (id⊢ 𝓤 _) $ await ! tt $ pick ! (λ r.
      split ! $ split ! $ move ! (1 ∷ []) $ feq_l ! (λ e. split ! $ at_once ! $ check ! (ap only e) $ keep ! (0 ∷ []) $ done !))
