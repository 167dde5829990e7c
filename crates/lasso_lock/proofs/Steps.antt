-- The atomic steps on a latch's word, each between two states of what the invariant keeps. Assumes `Logic`.
-- A look changes nothing. A change that gains the whole latch finds no reader, so all lots of the token are there: the name goes to 0, and one lot of
-- it and the token go to the claim. A change that gains a reader takes one lot out. A claim that comes back brings its lot, which says what state the
-- latch is in: a reader's is put to the others, and with that of the whole claim the name is whole again and goes to the token that the value was
-- lent for meanwhile. The word of a latch that was shared before may be any number; one from `taken` on is never free again, and is safe.
use Rattle.std.proofs.Common.{◌≡◌, ℕ, zero, suc, ◌+◌, ◌-◌, ◌%◌, ◌^◌, ◌<◌, ◌≤◌, eqb, Bool, [], ◌∷◌, sym, refl, subst, arith, eq-eqb, ne_eqb, w64, Option, Some, None}
use mathlib.Core.Logic.{dite, inl, inr}
use native.Mathlib.Decide.{ℕ_discrete, dec_le}
use seplogic.Ra.Ura.{Ura}
use mir.Syntax.{ty_int}
use mir.Val.{vint, has_ty, WT}
use base.Fraction.{full_share}
use base.Logic.{SProp, ent, sep, ex, upd, upd_i, never_e}
use base.Fml.{Lft, Share, Incl, Fml, ftrue, fsep, fex, fbor, flft}
use ghost.Rules.{Toks, span}
use prog.Atomic.{either}
use types.Logic.{Logic, sem, lfts}
use types.Kit.{‵, raw, ◌⊛◌, given, later, ◌$◌, ◌∵◌, !, qed, by, move, keep, drop, split, fsplit, fsplit3, fjoin, fjoin3, fpick, fpack, learn, show, frame, each, assume, suffices, settle, use1, use2, rewrite, updating, await, now, done}
use denote.RattleType.{RattleType, RowLaws}
use denote.RawPtr.{block_ptr}
use denote.Shares.{Shares}
use denote.SharingLaws.{contraction}
use denote.Steps.{nothing}
use Rattle.core.specs.Sync.RawAtomic.{asks, always, word}
use Rattle.core.proofs.raw_atomic.Asked.{borrowed, Lies, Again}
use Rattle.lasso_lock.specs.LatchWords.{taken, readers, IsTurn, Gains, Outcome, IsWeight}
use Rattle.lasso_lock.specs.Latches.{holds, lot, all_but, Keeping, Stage, out, lent, content, visible, due, stage, staged, kept_word, reading, reading_some, having, entitled}
use Rattle.lasso_lock.proofs.Lots.{lot_out, lot_in, lots_agree, too_many, renamed}
use Rattle.lasso_lock.proofs.Lending.{visible_laws, Begun, lends, ended}

module _ {M : Type 1} {𝓤 : Ura M} (𝓛 : Logic 𝓤) (R : RattleType) (fits : R.Denot → Type 0) (b o : ℕ) (t : Keeping) where
  open 𝓛 use {H, A}

  abbrev Pr : Type 2
  Pr = SProp 𝓤

  abbrev ◌⊢◌ : Pr → Pr → Type 1
  P ⊢ Q = ent 𝓤 P Q

  abbrev ◌∗◌ : Pr → Pr → Pr
  P ∗ Q = sep 𝓤 P Q

  abbrev ⟦◌⟧ : Fml → Pr
  ⟦ P ⟧ = sem 𝓛 P

  infix 26 ◌⊢◌
  infixr 35 ◌∗◌
  abbrev α : Lft
  α = t.0

  abbrev I : Fml
  I = kept_word R fits b o t

  abbrev St : ℕ → Fml
  St = staged R fits b o t

  abbrev st : ℕ → Stage R.Denot → Fml
  st = stage R fits b o t

  abbrev Fresh : Fml
  Fresh = Begun 𝓛 R fits b o t

  abbrev all_lots : ℕ → Fml
  all_lots v = all_but 0 t.1 v

  stays : (n : ℕ) (p : Stage R.Denot) (K : Fml) → ⟦ st n p ⟧ ∗ ⟦ K ⟧ ⊢ upd 𝓤 (⟦ St n ⟧ ∗ ⟦ K ⟧)
  stays n p K = let Z : Pr = ⟦ St n ⟧ ∗ ⟦ K ⟧ in qed 𝓛 (‵ (st n p) ∷ ‵ K ∷ []) ∵ suffices ! Z (upd_i 𝓤 Z) $ fpack ! (Stage R.Denot) (st n) p $ done !

  -- with all lots of nothing and the value lent, any word may stand
  pub begins : (w : ℕ) → ⟦ all_lots 0 ⟧ ∗ ⟦ Fresh ⟧ ⊢ upd 𝓤 ⟦ St w ⟧
  begins w = dite (dec_le taken w)
      (λ high. qed 𝓛 (‵ (all_lots 0) ∷ ‵ Fresh ∷ []) ∵ suffices ! ⟦ St w ⟧ (upd_i 𝓤 ⟦ St w ⟧) $ use1 𝓛 (‵ (lot t.1 0) ⊛ ‵ (all_but 1 t.1 0)) (lot_out 𝓛 t.1 0 0 (omega arith)) $ split ! $ keep ! (1 ∷ []) $
      nothing ! $ fpack ! (taken ≤ w) (λ _. ftrue) high $ fjoin ! $ fpack ! (Stage R.Denot) (st w) out $ done !)
      (λ not_high. qed 𝓛 (‵ (all_lots 0) ∷ ‵ Fresh ∷ []) ∵ move ! (1 ∷ []) $ fpick ! (λ u. fsplit ! $ move ! (2 ∷ 0 ∷ []) $
      use2 𝓛 (raw (upd 𝓤 (⟦ all_lots (suc u.0) ⟧ ∗ ⟦ ftrue ⟧))) (renamed 𝓛 t.1 0 (suc u.0)) $ settle 𝓛 ⟦ St w ⟧ (‵ (all_lots (suc u.0)) ⊛ ‵ ftrue) $ suffices ! ⟦ St w ⟧ (upd_i 𝓤 ⟦ St w ⟧) $ split ! $ keep ! (0 ∷ 2 ∷ []) $
      fjoin ! $ nothing ! $ fpack ! ((w < taken) × (0 ≤ readers w)) (λ _. ftrue) (omega arith, omega arith) $ fjoin ! $ fpack ! (Stage R.Denot) (st w) (lent u.0 0 u.1) $ done !))

  -- what a change gains. The token of the whole claim is still to be spent
  abbrev pub gain : ℕ → Option R.Denot → Fml
  gain zero v = ftrue
  gain (suc zero) v = reading_some R fits b o t v
  gain (suc (suc k)) v = fsep (lot t.1 0) (fex ℕ (λ a. fsep (flft (a ∷ []) full_share) (due R fits b o t a)))

  gains_right : (right : ℕ) (v : Option R.Denot) → ⟦ gain right v ⟧ ⊢ H.⇛ ⟦ entitled R fits b o t right v ⟧
  gains_right zero v = 𝓛.laws.⇛_intro _
  gains_right (suc zero) v = 𝓛.laws.⇛_intro _
  gains_right (suc (suc k)) v = qed 𝓛 (‵ (gain (suc (suc k)) v) ∷ []) ∵ updating ! $ fsplit ! $ move ! (1 ∷ []) $ fpick ! (λ a. fsplit ! $
      use2 𝓛 (later (‵ (fbor α (content R fits b o)))) (ended 𝓛 R fits b o t a) $ await ! tt $ now ! $ move ! (1 ∷ 0 ∷ []) $ fjoin ! $ done !)

  -- what an attempt that found the word n has won, at first, and once the token is spent
  module _ (old new : ℕ) where
    abbrev won : ℕ → ℕ × Option R.Denot → Fml
    won n g = fsep (holds (Outcome old new n g.0)) (gain g.0 g.1)

    abbrev pub Won : ℕ → Fml
    Won n = fex (ℕ × Option R.Denot) (won n)

    abbrev has : ℕ → ℕ × Option R.Denot → Fml
    has n g = fsep (holds (Outcome old new n g.0)) (entitled R fits b o t g.0 g.1)

    abbrev pub Has : ℕ → Fml
    Has n = fex (ℕ × Option R.Denot) (has n)

    pub spends : (n : ℕ) → ⟦ Won n ⟧ ⊢ H.⇛ ⟦ Has n ⟧
    spends n = qed 𝓛 (‵ (Won n) ∷ []) ∵ updating ! $ fpick ! (λ g. fsplit ! $ move ! (1 ∷ []) $ use1 𝓛 (later (‵ (entitled R fits b o t g.0 g.1))) (gains_right g.0 g.1) $ await ! tt $
        move ! (1 ∷ 0 ∷ []) $ fjoin ! $ fpack ! (ℕ × Option R.Denot) (has n) g $ now ! $ done !)

  -- what a claim brings when it ends
  abbrev pub offer : ℕ → Fml
  offer zero = ftrue
  offer (suc zero) = fex ℕ (λ a. lot t.1 (suc a))
  offer (suc (suc k)) = fsep (lot t.1 0) Fresh

  pub offers : (l : Lft) → Shares 𝓛 R l → (ts : Toks) → Incl (span ts) l → Incl (span ts) α → (right : ℕ) (v : Option R.Denot) → ⟦ entitled R fits b o t right v ⟧ ∗ lfts 𝓛 ts ⊢ H.⇛ (⟦ offer right ⟧ ∗ lfts 𝓛 ts)
  offers l shares ts inc sp zero v = 𝓛.laws.⇛_intro _
  offers l shares ts inc sp (suc zero) None = never_first
    where
      never_first : ⟦ entitled R fits b o t 1 None ⟧ ∗ lfts 𝓛 ts ⊢ H.⇛ (⟦ offer 1 ⟧ ∗ lfts 𝓛 ts)
      never_first = qed 𝓛 (‵ (entitled R fits b o t 1 None) ∷ raw (lfts 𝓛 ts) ∷ []) ∵ keep ! (0 ∷ []) $ by ! (never_e 𝓤 _)
  offers l shares ts inc sp (suc zero) (Some x) = qed 𝓛 (‵ (reading R fits b o t x) ∷ raw (lfts 𝓛 ts) ∷ []) ∵ updating ! $ fpick ! (λ a. fsplit ! $ fpack ! ℕ (λ c. lot t.1 (suc c)) a $ now ! $ keep ! (0 ∷ 2 ∷ []) $ done !)
  offers l shares ts inc sp (suc (suc k)) v = qed 𝓛 (‵ (having R fits b o t) ∷ raw (lfts 𝓛 ts) ∷ []) ∵ updating ! $ fsplit ! $ move ! (1 ∷ 2 ∷ []) $
      use2 𝓛 (later (‵ Fresh ⊛ raw (lfts 𝓛 ts))) (lends 𝓛 R fits b o t l shares ts inc sp) $ await ! tt $ split ! $ move ! (2 ∷ 0 ∷ []) $ fjoin ! $ now ! $ done !

  module _ (q : Share) where
    -- a step on the word that takes K, and leaves `after n` where it found n
    abbrev pub StepBy : (ℕ → ℕ) → Fml → (ℕ → Fml) → Type 1
    StepBy f K after = A.inv (fbor α I) ∗ (A.lft α q ∗ ⟦ K ⟧) ⊢ asks 𝓛 (block_ptr b (o + 0)) f always (λ n. fsep (flft α q) (after n))

    under_invariant : (f : ℕ → ℕ) (after : ℕ → Fml) (K : Fml) → ((n : ℕ) → n < 2 ^ 64 → (p : Stage R.Denot) → ⟦ st n p ⟧ ∗ ⟦ K ⟧ ⊢ upd 𝓤 (⟦ St (f n) ⟧ ∗ ⟦ after n ⟧)) → StepBy f K after
    under_invariant f after K law = let e : ℕ = o + 0 in let Found : Pr = ex 𝓤 (Lies 𝓛 α q I b e f always after) in borrowed 𝓛 α q I b e f always after ⟦ K ⟧ (
        qed 𝓛 (‵ I ∷ ‵ K ∷ []) ∵ suffices ! Found (upd_i 𝓤 Found) $ fpick ! (λ n. fsplit ! $
        use1 𝓛 (given (lib.Dec.T (has_ty (ty_int w64) (vint w64 n)) × WT (vint w64 n)) (‵ (word b e n))) (𝓛.laws.at_wt full_share (ty_int w64) b e (vint w64 n)) $ learn ! (λ typed.
        show ! (Lies 𝓛 α q I b e f always after) n $ frame ! $ each ! (λ (_ : Unit {0}). Again 𝓛 α q I b e f always after n) (λ _. let Z : Pr = ⟦ I ⟧ ∗ ⟦ after n ⟧ in
        assume ! (‵ (word b e (f n))) $ move ! (1 ∷ []) $ fpick ! (λ p. move ! (0 ∷ 2 ∷ []) $ use2 𝓛 (raw (upd 𝓤 (⟦ St (f n) ⟧ ∗ ⟦ after n ⟧))) (law n typed.1.fits p) $
        settle 𝓛 Z (‵ (St (f n)) ⊛ ‵ (after n)) $ split ! $ suffices ! Z (upd_i 𝓤 Z) $ move ! (2 ∷ 0 ∷ []) $ fjoin ! $ fpack ! ℕ (λ w. fsep (word b e w) (St w)) (f n) $ done !)))))

    pub looks : StepBy (λ n. n) ftrue (λ _. ftrue)
    looks = under_invariant (λ n. n) (λ _. ftrue) ftrue (λ n _ p. stays n p ftrue)

    -- a reader's lot comes back
    left : (a n : ℕ) → n < 2 ^ 64 → (p : Stage R.Denot) → ⟦ st n p ⟧ ∗ ⟦ lot t.1 (suc a) ⟧ ⊢ upd 𝓤 (⟦ St ((n + (2 ^ 64 - 1)) % 2 ^ 64) ⟧ ∗ ⟦ ftrue ⟧)
    left a n low out = qed 𝓛 (‵ (st n out) ∷ ‵ (lot t.1 (suc a)) ∷ []) ∵ fsplit ! $ drop ! $
        use2 𝓛 (given (zero ≡ suc a) (‵ (all_but 1 t.1 0) ⊛ ‵ (lot t.1 (suc a)))) (lots_agree 𝓛 t.1 0 (suc a) (2 ^ 63 - 1) 1) $ learn ! (λ same. absurd (omega arith))
    left a n low (lent c zero x) = qed 𝓛 (‵ (st n (lent c 0 x)) ∷ ‵ (lot t.1 (suc a)) ∷ []) ∵ fsplit3 ! $ keep ! (1 ∷ 3 ∷ []) $ by ! (too_many 𝓛 t.1 (suc c) (suc a) 1 _)
    left a n low (lent c (suc m) x) = let w : ℕ = (n + (2 ^ 64 - 1)) % 2 ^ 64 in
        qed 𝓛 (‵ (st n (lent c (suc m) x)) ∷ ‵ (lot t.1 (suc a)) ∷ []) ∵ fsplit3 ! $ fpick ! (λ h. drop ! $ let h₀ = h.0 in let h₁ = h.1 in move ! (2 ∷ 0 ∷ []) $
        use2 𝓛 (given (suc a ≡ suc c) (‵ (lot t.1 (suc a)) ⊛ ‵ (all_but (suc m) t.1 (suc c)))) (lots_agree 𝓛 t.1 (suc a) (suc c) 1 (2 ^ 63 - suc m)) $ learn ! (λ same. split ! $
        rewrite ! 0 (λ (v : ℕ). ‵ (lot t.1 v)) same refl $ use2 𝓛 (‵ (all_but m t.1 (suc c))) (lot_in 𝓛 t.1 (suc c) m (omega arith)) $ fjoin ! $
        nothing ! $ fpack ! ((w < taken) × (m ≤ readers w)) (λ _. ftrue) (omega arith, omega arith) $ fjoin ! $ nothing ! $ move ! (1 ∷ 0 ∷ []) $ by ! (stays w (lent c m x) ftrue)))

    -- the whole claim comes back
    given_back : (n : ℕ) (p : Stage R.Denot) → ⟦ st n p ⟧ ∗ ⟦ offer 2 ⟧ ⊢ upd 𝓤 (⟦ St ((n + (2 ^ 64 - 8589934592)) % 2 ^ 64) ⟧ ∗ ⟦ ftrue ⟧)
    given_back n (lent c m x) = qed 𝓛 (‵ (st n (lent c m x)) ∷ ‵ (offer 2) ∷ []) ∵ fsplit3 ! $ move ! (3 ∷ []) $ fsplit ! $ move ! (0 ∷ 3 ∷ []) $
        use2 𝓛 (given (zero ≡ suc c) (‵ (lot t.1 0) ⊛ ‵ (all_but m t.1 (suc c)))) (lots_agree 𝓛 t.1 0 (suc c) 1 (2 ^ 63 - m)) $ learn ! (λ same. absurd (omega arith))
    given_back n out = let w : ℕ = (n + (2 ^ 64 - 8589934592)) % 2 ^ 64 in let Z : Pr = ⟦ St w ⟧ ∗ ⟦ ftrue ⟧ in
        qed 𝓛 (‵ (st n out) ∷ ‵ (offer 2) ∷ []) ∵ fsplit ! $ drop ! $ move ! (1 ∷ []) $ fsplit ! $ move ! (0 ∷ 2 ∷ []) $ use2 𝓛 (‵ (all_lots 0)) (lot_in 𝓛 t.1 0 0 (omega arith)) $
        use2 𝓛 (raw (upd 𝓤 ⟦ St w ⟧)) (begins w) $ settle 𝓛 Z (‵ (St w)) $ suffices ! Z (upd_i 𝓤 Z) $ nothing ! $ move ! (1 ∷ 0 ∷ []) $ done !

    -- what a step does not need, F, is there after it
    beside_step : (f : ℕ → ℕ) (K F : Fml) → ((n : ℕ) → n < 2 ^ 64 → (p : Stage R.Denot) → ⟦ st n p ⟧ ∗ ⟦ K ⟧ ⊢ upd 𝓤 (⟦ St (f n) ⟧ ∗ ⟦ ftrue ⟧)) → StepBy f (fsep K F) (λ _. F)
    beside_step f K F law = under_invariant f (λ _. F) (fsep K F) (λ n low p. let Z : Pr = ⟦ St (f n) ⟧ ∗ ⟦ F ⟧ in
        qed 𝓛 (‵ (st n p) ∷ ‵ (fsep K F) ∷ []) ∵ move ! (1 ∷ []) $ fsplit ! $ move ! (2 ∷ 0 ∷ []) $ use2 𝓛 (raw (upd 𝓤 (⟦ St (f n) ⟧ ∗ ⟦ ftrue ⟧))) (law n low p) $
        settle 𝓛 Z (‵ (St (f n)) ⊛ ‵ ftrue) $ split ! $ suffices ! Z (upd_i 𝓤 Z) $ keep ! (0 ∷ 2 ∷ []) $ done !)

    module _ (F : Fml) where
      abbrev Lowers : ℕ → ℕ → Type 1
      Lowers right by_ = StepBy (λ n. (n + (2 ^ 64 - by_)) % 2 ^ 64) (fsep (offer right) F) (λ _. F)

      reader_lowers : Lowers 1 1
      reader_lowers = beside_step (λ n. (n + (2 ^ 64 - 1)) % 2 ^ 64) (offer 1) F (λ n low p.
          qed 𝓛 (‵ (st n p) ∷ ‵ (offer 1) ∷ []) ∵ move ! (1 ∷ []) $ fpick ! (λ a. move ! (1 ∷ 0 ∷ []) $ by ! (left a n low p)))

      pub lowers : (right by_ : ℕ) → IsWeight right by_ → Lowers right by_
      lowers right by_ (inl one) = subst (λ (r : ℕ). Lowers r by_) (sym one.0) (subst (Lowers 1) (sym one.1) reader_lowers)
      lowers right by_ (inr all) = subst (λ (r : ℕ). Lowers r by_) (sym all.0) (subst (Lowers 2) (sym all.1) (beside_step (λ n. (n + (2 ^ 64 - 8589934592)) % 2 ^ 64) (offer 2) F (λ n low p. given_back n p)))

    module _ (L : RowLaws R) (old new : ℕ) where
      abbrev Got : ℕ → Fml
      Got = Won old new

      wins : (p : Stage R.Denot) (right : ℕ) (v : Option R.Denot) → Gains old new right → ⟦ st new p ⟧ ∗ ⟦ gain right v ⟧ ⊢ upd 𝓤 (⟦ St new ⟧ ∗ ⟦ Got old ⟧)
      wins p right v so = qed 𝓛 (‵ (st new p) ∷ ‵ (gain right v) ∷ []) ∵ move ! (1 ∷ []) $ nothing ! $ fpack ! (Outcome old new old right) (λ _. ftrue) ((λ _. so), (λ other. absurd (other refl))) $ fjoin ! $
          fpack ! (ℕ × Option R.Denot) (won old new old) (right, v) $ move ! (1 ∷ 0 ∷ []) $ by ! (stays new p (Got old))

      hit : IsTurn old new → (p : Stage R.Denot) → ⟦ st old p ⟧ ∗ ⟦ ftrue ⟧ ⊢ upd 𝓤 (⟦ St new ⟧ ∗ ⟦ Got old ⟧)
      hit asked out = qed 𝓛 (‵ (st old out) ∷ ‵ ftrue ∷ []) ∵ fsplit ! $ fpick ! (λ high. let low = asked.0 in absurd (omega arith))
      hit (low, inl asked) (lent a m x) = let Z : Pr = ⟦ St new ⟧ ∗ ⟦ Got old ⟧ in qed 𝓛 (‵ (st old (lent a m x)) ∷ ‵ ftrue ∷ []) ∵ fsplit3 ! $ fpick ! (λ h. drop ! $ let few = h.1 in let none = asked.1 in let is = asked.0 in
          let nobody : m ≡ 0 = omega arith in rewrite ! 0 (λ (k : ℕ). ‵ (all_but k t.1 (suc a))) nobody refl $ move ! (0 ∷ 2 ∷ []) $
          use2 𝓛 (raw (upd 𝓤 (⟦ all_lots 0 ⟧ ∗ ⟦ flft (a ∷ []) full_share ⟧))) (renamed 𝓛 t.1 (suc a) 0) $ settle 𝓛 Z (‵ (all_lots 0) ⊛ ‵ (flft (a ∷ []) full_share)) $ split ! $
          use1 𝓛 (‵ (lot t.1 0) ⊛ ‵ (all_but 1 t.1 0)) (lot_out 𝓛 t.1 0 0 (omega arith)) $ split ! $
          -- [a lot of nothing; the others; the token; what was seen and the right to the value]
          move ! (3 ∷ []) $ fsplit ! $ move ! (4 ∷ 1 ∷ []) $ fjoin ! $ fpack ! ℕ (λ c. fsep (flft (c ∷ []) full_share) (due R fits b o t c)) a $ move ! (2 ∷ 0 ∷ []) $ fjoin ! $ move ! (2 ∷ []) $
          nothing ! $ fpack ! (taken ≤ new) (λ _. ftrue) (omega arith) $ fjoin ! $ keep ! (0 ∷ 1 ∷ []) $ by ! (wins out 2 None ((λ _. refl), (λ less. absurd (omega arith)))))
      hit (low, inr asked) (lent a m x) = qed 𝓛 (‵ (st old (lent a m x)) ∷ ‵ ftrue ∷ []) ∵ fsplit3 ! $ fpick ! (λ h. drop ! $ let few = h.1 in let less = asked.0 in let more = asked.1 in let most = asked.2 in dite (dec_le (readers new) (readers old))
          (λ same. fjoin ! $ nothing ! $ fpack ! ((new < taken) × (m ≤ readers new)) (λ _. ftrue) (less, omega arith) $ fjoin ! $ keep ! (0 ∷ 1 ∷ []) $
          by ! (wins (lent a m x) 0 None ((λ is. absurd (omega arith)), (λ _. omega arith))))
          (λ one_more. use1 𝓛 (‵ (lot t.1 (suc a)) ⊛ ‵ (all_but (suc m) t.1 (suc a))) (lot_out 𝓛 t.1 (suc a) m (omega arith)) $ split ! $ move ! (2 ∷ []) $ fsplit ! $
          use1 𝓛 (‵ (visible R fits b o x (a ∷ α)) ⊛ ‵ (visible R fits b o x (a ∷ α))) (contraction 𝓛 (visible R fits b o x) (visible_laws R fits L b o x) (a ∷ α)) $ split ! $
          -- [what is seen, twice; the right to the value; a lot; the others]
          move ! (3 ∷ 0 ∷ []) $ fjoin ! $ fpack ! ℕ (λ c. fsep (lot t.1 (suc c)) (visible R fits b o x (c ∷ α))) a $ move ! (3 ∷ 1 ∷ 2 ∷ []) $ fjoin3 ! $
          nothing ! $ fpack ! ((new < taken) × (suc m ≤ readers new)) (λ _. ftrue) (less, omega arith) $ fjoin ! $ keep ! (0 ∷ 1 ∷ []) $
          by ! (wins (lent a (suc m) x) 1 (Some x) ((λ is. absurd (omega arith)), (λ _. omega arith)))))

      pub turns : IsTurn old new → StepBy (λ n. either (eqb n old) new n) ftrue Got
      turns asked = under_invariant (λ n. either (eqb n old) new n) Got ftrue (λ n _ p. let Law : Bool → Type 1 = λ y. ⟦ st n p ⟧ ∗ ⟦ ftrue ⟧ ⊢ upd 𝓤 (⟦ St (either y new n) ⟧ ∗ ⟦ Got n ⟧) in dite (ℕ_discrete n old)
          (λ e. subst Law (sym (eq-eqb n old e)) (subst (λ (k : ℕ). ⟦ st k p ⟧ ∗ ⟦ ftrue ⟧ ⊢ upd 𝓤 (⟦ St new ⟧ ∗ ⟦ Got k ⟧)) (sym e) (hit asked p)))
          (λ miss. subst Law (sym (ne_eqb n old miss)) (qed 𝓛 (‵ (st n p) ∷ ‵ ftrue ∷ []) ∵ move ! (1 ∷ []) $ nothing ! $ fpack ! (Outcome old new n 0) (λ _. ftrue) ((λ e. absurd (miss e)), (λ _. refl)) $ fjoin ! $
          fpack ! (ℕ × Option R.Denot) (won old new n) (0, None) $ move ! (1 ∷ 0 ∷ []) $ by ! (stays n p (Got n)))))
