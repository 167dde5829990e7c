-- The value is lent to readers and comes back whole, and a claim that is borrowed shows what its reader sees. Assumes `Logic`.
-- To lend the value, a lifetime `a` begins, and the borrow for α becomes a borrow for the meet of `a` and α, with the right to the longer one
-- once `a` has ended. The shorter borrow is shared by the law of the value's type, and never changes while it is. To have the value whole,
-- the token of `a` is spent, so `a` is over, and the right is due.
-- What is borrowed may change its form while the borrow is open: it is closed over any formula that makes the first one again (`closes_over`).
-- A reader sees the value for the meet of `a` and α. While its claim is borrowed for ν, its share of the token of `a` is borrowed for ν too, so
-- `a` lasts as long as ν, and so does α, since the claim's own lifetime ends no later. So what is seen lasts for ν.
use Rattle.std.proofs.Common.{ℕ, zero, suc, ◌+◌, [], ◌∷◌, ◌++◌, Option, Some, None}
use seplogic.Ra.Ura.{Ura}
use base.Fraction.{full_share}
use base.FractionLaws.{Counts}
use base.Logic.{SProp, ent, sep, wand, emp, upd_i, id⊢, never_e, apply∗, fst∗, via}
use base.Fml.{Lft, Share, Incl, Incl-trans, Fml, ftrue, ffalse, fsep, fseps, fex, fwand, fupd, fdead, fbor, fobor, flft, finv}
use base.Before.{before}
use contract.BorrowLft.{meet_⊑_left, meet_⊑_right, ⊑_meet}
use ghost.Rules.{Toks, span}
use types.Logic.{Logic, sem, lfts}
use types.Kit.{‵, raw, ◌⊛◌, some, later, ◌$◌, ◌∵◌, !, qed, by, move, keep, drop, use0, use1, use2, split, join, fsplit, fsplit3, fjoin, fjoin3, fpick, fpack, pick, assume, suffices, await, updating, now, done}
use types.Tokens.{lft_new, lft_end, lent_back, bor_open, obor_alter, bor_fracture, one_token}
use types.Na.{before_dup, before_shorten}
use denote.RattleType.{RattleType, RowLaws}
use denote.Memory.{part_at, shared_of}
use denote.Moves.{moves, moves_before}
use denote.RawPtr.{Ptr, block_ptr, null_ptr}
use denote.Shares.{Shares}
use denote.Sharing.{ShrLaws, said}
use denote.SharingLaws.{beside_shr_laws, contraction, shortens, nothing_shr_laws, said_shr_laws, within_shr_laws}
use denote.Steps.{nothing}
use denote.Struct.Lending.{Lends, Lends-false, Lends-nothing}
use Rattle.core.proofs.cell.Borrows.{by_one}
use Rattle.lasso_lock.specs.Latches.{holds, named_as, lot, Keeping, value_at, content, visible, due, kept_word, known, reading, visible_by, claimed, lent_claim}
use Rattle.lasso_lock.proofs.Lots.{lots_in}

pub visible_laws : (R : RattleType) (fits : R.Denot → Type 0) → RowLaws R → (b o : ℕ) (x : R.Denot) → ShrLaws (visible R fits b o x)
visible_laws R fits L b o x = beside_shr_laws (said (holds (fits x))) (shared_of R x b (o + value_at R)) (said_shr_laws (holds (fits x)) (λ _. tt)) (L x b (o + value_at R))

by_right : (R : RattleType) (fits : R.Denot → Type 0) → RowLaws R → (b o right : ℕ) (v : Option R.Denot) (β : Lft) → ShrLaws (visible_by R fits b o right v β)
by_right R fits L b o zero v β = nothing_shr_laws
by_right R fits L b o (suc zero) None β = said_shr_laws ffalse tt
by_right R fits L b o (suc zero) (Some x) β = within_shr_laws β (visible R fits b o x) (visible_laws R fits L b o x)
by_right R fits L b o (suc (suc k)) v β = nothing_shr_laws

pub claim_laws : (R : RattleType) (fits : R.Denot → Type 0) → RowLaws R → (β : Lft) (p : Ptr) (right : ℕ) (v : Option R.Denot) → ShrLaws (lent_claim R fits β p right v)
claim_laws R fits L β null_ptr right v = said_shr_laws ffalse tt
claim_laws R fits L β (block_ptr b o) right v = by_right R fits L b o right v β

module _ {M : Type 1} {𝓤 : Ura M} (𝓛 : Logic 𝓤) where
  open 𝓛 use {H, A}

  abbrev Pr : Type 2
  Pr = SProp 𝓤

  abbrev ◌⊢◌ : Pr → Pr → Type 1
  P ⊢ Q = ent 𝓤 P Q

  abbrev ◌∗◌ : Pr → Pr → Pr
  P ∗ Q = sep 𝓤 P Q

  abbrev ⟦◌⟧ : Fml → Pr
  ⟦ P ⟧ = sem 𝓛 P

  infix 26 ◌⊢◌
  infixr 35 ◌∗◌
  -- An open borrow of P is closed as one of Q, where Q makes a P again whenever the lifetime has ended.
  makes_again : (κ : Lft) (P Q : Fml) → ⟦ Q ⟧ ⊢ ⟦ P ⟧ → emp 𝓤 ⊢ ⟦ fwand (fsep (fdead κ) (fseps (Q ∷ []))) (fupd P) ⟧
  unfolding fseps
  makes_again κ P Q again = qed 𝓛 [] ∵ assume ! (‵ (fsep (fdead κ) (fsep Q ftrue))) $ fsplit3 ! $ keep ! (1 ∷ []) $ use1 𝓛 (‵ P) again $ by ! (upd_i 𝓤 ⟦ P ⟧)

  pub closes_over : (κ : Lft) (q : Share) (P Q : Fml) → ⟦ Q ⟧ ⊢ ⟦ P ⟧ → ⟦ fobor κ q P ⟧ ∗ ⟦ Q ⟧ ⊢ H.⇛ (A.bor κ Q ∗ A.lft κ q)
  unfolding fseps
  closes_over κ q P Q again = qed 𝓛 (‵ (fobor κ q P) ∷ ‵ Q ∷ []) ∵ updating ! $ move ! (1 ∷ []) $ nothing ! $ move ! (1 ∷ 0 ∷ []) $ fjoin ! $
      use0 𝓛 (‵ (fwand (fsep (fdead κ) (fseps (Q ∷ []))) (fupd P))) (makes_again κ P Q again) $ move ! (2 ∷ 1 ∷ 0 ∷ []) $ obor_alter ! tt (Q ∷ []) $ use1 𝓛 (‵ (fbor κ Q)) (fst∗ 𝓤 (A.bor κ Q) (emp 𝓤)) $ now ! $ done !

  module _ (R : RattleType) (fits : R.Denot → Type 0) (b o : ℕ) where
    abbrev C : Fml
    C = content R fits b o

    abbrev Stored : R.Denot → Fml
    Stored x = part_at R full_share x b (o + value_at R)

    pub stored_fits : (x : R.Denot) → fits x → ⟦ Stored x ⟧ ⊢ ⟦ C ⟧
    stored_fits x fit = qed 𝓛 (‵ (Stored x) ∷ []) ∵ nothing ! $ fpack ! (fits x) (λ _. ftrue) fit $ fjoin ! $ fpack ! R.Denot (λ y. fsep (holds (fits y)) (Stored y)) x $ done !

    -- a borrow of the content is one of the value in it
    abbrev One : Lft → Fml
    One κ = fex R.Denot (λ x. fex (fits x) (λ _. fbor κ (Stored x)))

    narrowed : (κ : Lft) (q : Share) → A.bor κ C ∗ A.lft κ q ⊢ H.⇛ (⟦ One κ ⟧ ∗ A.lft κ q)
    narrowed κ q = qed 𝓛 (‵ (fbor κ C) ∷ ‵ (flft κ q) ∷ []) ∵ updating ! $ bor_open ! tt $ move ! (1 ∷ []) $ fpick ! (λ x. fsplit ! $ fpick ! (λ fit. drop ! $ move ! (1 ∷ 0 ∷ []) $
        use2 𝓛 (later (‵ (fbor κ (Stored x)) ⊛ ‵ (flft κ q))) (closes_over κ q C (Stored x) (stored_fits x fit)) $ await ! tt $ split ! $
        fpack ! (fits x) (λ _. fbor κ (Stored x)) fit $ fpack ! R.Denot (λ y. fex (fits y) (λ _. fbor κ (Stored y))) x $ now ! $ done !))

    module _ (t : Keeping) where
      abbrev α : Lft
      α = t.0

      abbrev pub Lent : ℕ × R.Denot → Fml
      Lent u = fsep (flft (u.0 ∷ []) full_share) (fsep (visible R fits b o u.1 (u.0 ∷ α)) (due R fits b o t u.0))

      -- the value, lent for a new lifetime
      abbrev pub Begun : Fml
      Begun = fex (ℕ × R.Denot) Lent

      pub lends : (l : Lft) → Shares 𝓛 R l → (ts : Toks) → Incl (span ts) l → Incl (span ts) α → A.bor α C ∗ lfts 𝓛 ts ⊢ H.⇛ (⟦ Begun ⟧ ∗ lfts 𝓛 ts)
      lends l shares ts inc sp = let e : ℕ = o + value_at R in let μ : Lft = span ts in
          qed 𝓛 (‵ (fbor α C) ∷ raw (lfts 𝓛 ts) ∷ []) ∵ updating ! $ lft_new ! tt (λ a. let κ : Lft = a ∷ α in move ! (1 ∷ []) $
          use1 𝓛 (later (‵ (fbor κ C) ⊛ ‵ (due R fits b o t a))) (𝓛.more.bor_reborrow α κ C (meet_⊑_right (a ∷ []) α)) $ await ! tt $ split ! $ move ! (3 ∷ []) $
          use1 𝓛 (some (λ (q : Share). ‵ (flft μ q) ⊛ raw (wand 𝓤 (A.lft μ q) (lfts 𝓛 ts)))) (one_token 𝓛 ts) $ pick ! (λ q. split ! $
          let us : Toks = (a ∷ [], full_share) ∷ (μ, q) ∷ [] in let both : Incl (span us) κ = ⊑_meet (a ∷ μ) (a ∷ []) α (meet_⊑_left (a ∷ []) μ) (Incl-trans (meet_⊑_right (a ∷ []) μ) sp) in
          -- [the token of μ; the way back; the borrow; the right to the longer one; the token of a]
          move ! (4 ∷ 0 ∷ []) $ join ! $ move ! (2 ∷ 0 ∷ []) $
          use2 𝓛 (later (‵ (One κ) ⊛ raw (lfts 𝓛 us))) (by_one 𝓛 κ us both (A.bor κ C) ⟦ One κ ⟧ (narrowed κ)) $ await ! tt $ split ! $ fpick ! (λ x. fpick ! (λ fit.
          use2 𝓛 (later (‵ (shared_of R x b e κ) ⊛ ‵ (flft (a ∷ []) full_share) ⊛ ‵ (flft μ q))) (shares x κ us b e (Incl-trans (meet_⊑_right (a ∷ []) μ) inc) both) $ await ! tt $ split ! $ move ! (1 ∷ []) $ split ! $
          -- [the token of a; that of μ; the shared value; the way back; the right]
          move ! (1 ∷ 3 ∷ []) $ use2 𝓛 (raw (lfts 𝓛 ts)) (apply∗ 𝓤 (A.lft μ q) (lfts 𝓛 ts)) $ move ! (2 ∷ []) $ nothing ! $ fpack ! (fits x) (λ _. ftrue) fit $ fjoin ! $
          move ! (2 ∷ 0 ∷ 3 ∷ []) $ fjoin3 ! $ fpack ! (ℕ × R.Denot) Lent (a, x) $ now ! $ done !))))

      pub ended : (a : ℕ) → A.lft (a ∷ []) full_share ∗ ⟦ due R fits b o t a ⟧ ⊢ H.⇛ (A.bor α C)
      ended a = qed 𝓛 (‵ (flft (a ∷ []) full_share) ∷ ‵ (due R fits b o t a) ∷ []) ∵ updating ! $ lft_end ! tt $ use1 𝓛 (‵ (fdead (a ∷ α))) (𝓛.lfts.dead-incl (a ∷ α) (a ∷ []) (meet_⊑_left (a ∷ []) α)) $
          lent_back ! tt $ now ! $ done !

    module _ (L : RowLaws R) (x : R.Denot) (β ν : Lft) (inc : Incl ν β) where
      abbrev Held : Fml
      Held = claimed R fits β (block_ptr b o) 1 (Some x)

      abbrev V : Lft → Fml
      V = visible R fits b o x

      -- the claim, from all that it owns but a share of the token
      held_again : (t : Keeping) (a : ℕ) (e : Share) → Counts 63 e 1 → (⟦ before β t.0 ⟧ ∗ A.inv (fbor t.0 (kept_word R fits b o t))) ∗ ⟦ named_as t.1 (suc a) e ⟧ ∗ ⟦ V (a ∷ t.0) ⟧
          ⊢ ⟦ fwand (fsep (fdead ν) (fseps (flft (a ∷ []) e ∷ []))) (fupd Held) ⟧
      unfolding fseps
      held_again t a e c = qed 𝓛 ((‵ (before β t.0) ⊛ ‵ (finv (fbor t.0 (kept_word R fits b o t)))) ∷ ‵ (named_as t.1 (suc a) e) ∷ ‵ (V (a ∷ t.0)) ∷ []) ∵ assume ! (‵ (fsep (fdead ν) (fsep (flft (a ∷ []) e) ftrue))) $
          suffices ! ⟦ Held ⟧ (upd_i 𝓤 ⟦ Held ⟧) $ fsplit3 ! $ move ! (1 ∷ 4 ∷ []) $ fjoin ! $ use1 𝓛 (‵ (lot t.1 (suc a))) (lots_in 𝓛 t.1 (suc a) 1 e c) $ move ! (0 ∷ 4 ∷ []) $ fjoin ! $
          fpack ! ℕ (λ u. fsep (lot t.1 (suc u)) (V (u ∷ t.0))) a $ move ! (3 ∷ []) $ split ! $ fjoin ! $ fjoin ! $ fpack ! Keeping (λ s. fsep (known R fits b o s β) (reading R fits b o s x)) t $ keep ! (0 ∷ []) $ done !

      shows : (q : Share) → A.bor ν Held ∗ A.lft ν q ⊢ H.⇛ (⟦ V ν ⟧ ∗ A.lft ν q)
      unfolding fseps
      shows q = let K : ShrLaws V = visible_laws R fits L b o x in qed 𝓛 (‵ (fbor ν Held) ∷ ‵ (flft ν q) ∷ []) ∵ updating ! $ bor_open ! tt $ move ! (1 ∷ []) $
          fpick ! (λ t. fsplit ! $ fsplit ! $ move ! (2 ∷ []) $ fpick ! (λ a. fsplit ! $ fpick ! (λ e. fpick ! (λ c. fsplit ! $ let μ : Lft = a ∷ ν in
          -- [the token's share; the name's; what is seen; α lasts as long as the latch is lent; the invariant; the open borrow]
          move ! (2 ∷ []) $ use1 𝓛 (‵ (V (a ∷ t.0)) ⊛ ‵ (V (a ∷ t.0))) (contraction 𝓛 V K (a ∷ t.0)) $ split ! $ move ! (4 ∷ []) $
          use1 𝓛 (‵ (before β t.0) ⊛ ‵ (before β t.0)) (before_dup 𝓛 β t.0) $ split ! $ move ! (1 ∷ 6 ∷ []) $ join ! $ move ! (0 ∷ 5 ∷ 2 ∷ []) $
          types.Kit.use3 𝓛 (‵ (fwand (fsep (fdead ν) (fseps (flft (a ∷ []) e ∷ []))) (fupd Held))) (held_again t a e c) $
          -- [the way back; α lasts; what is seen; the token's share; the open borrow]
          nothing ! $ move ! (4 ∷ 0 ∷ []) $ fjoin ! $ move ! (4 ∷ 0 ∷ 1 ∷ []) $ obor_alter ! tt (flft (a ∷ []) e ∷ []) $
          use1 𝓛 (‵ (fbor ν (flft (a ∷ []) e)) ⊛ ‵ ftrue) (id⊢ 𝓤 _) $ split ! $ bor_fracture ! tt (λ r. flft (a ∷ []) r) e $
          -- [a lasts for ν; nothing; the token of ν; α lasts; what is seen]
          move ! (4 ∷ []) $ use1 𝓛 (‵ (V (μ ++ t.0))) (shortens 𝓛 V K (a ∷ t.0) (μ ++ t.0) (⊑_meet (μ ++ t.0) (a ∷ []) t.0 (Incl-trans (meet_⊑_left μ t.0) (meet_⊑_left (a ∷ []) ν)) (meet_⊑_right μ t.0))) $ move ! (4 ∷ []) $
          use1 𝓛 (‵ (before μ t.0)) (before_shorten 𝓛 β μ t.0 (Incl-trans (meet_⊑_right (a ∷ []) ν) inc)) $ use2 𝓛 (‵ (V μ)) (moves_before 𝓛 V K μ t.0) $ move ! (1 ∷ 0 ∷ []) $
          use2 𝓛 (‵ (V ν)) (moves 𝓛 V K ν (a ∷ [])) $ now ! $ keep ! (0 ∷ 2 ∷ []) $ done !))))

      pub shows_by : (ts : Toks) → Incl (span ts) ν → A.bor ν Held ∗ lfts 𝓛 ts ⊢ H.⇛ (⟦ V ν ⟧ ∗ lfts 𝓛 ts)
      shows_by ts sp = by_one 𝓛 ν ts sp (A.bor ν Held) ⟦ V ν ⟧ shows

  never_lent : (β : Lft) (R : RattleType) (fits : R.Denot → Type 0) (b o : ℕ) (l : Lft) → Lends 𝓛 (claimed R fits β (block_ptr b o) 1 None) (λ _. ffalse) l
  never_lent β R fits b o l κ ts inc sp = let P : Fml = claimed R fits β (block_ptr b o) 1 None in qed 𝓛 (‵ (fbor κ P) ∷ raw (lfts 𝓛 ts) ∷ []) ∵ updating ! $
      use2 𝓛 (later (‵ P ⊛ raw (wand 𝓤 ⟦ P ⟧ (H.⇛ (A.bor κ P ∗ lfts 𝓛 ts))))) (𝓛.more.bor_acc_by κ ts P sp) $ await ! tt $ split ! $ fpick ! (λ t. fsplit ! $ keep ! (1 ∷ []) $ by ! (never_e 𝓤 _))

  pub claim_lends : (R : RattleType) (fits : R.Denot → Type 0) → RowLaws R → (β l : Lft) → Incl l β → (p : Ptr) (right : ℕ) (v : Option R.Denot) → Lends 𝓛 (claimed R fits β p right v) (lent_claim R fits β p right v) l
  claim_lends R fits L β l le null_ptr right v = Lends-false 𝓛 (lent_claim R fits β null_ptr right v) l
  claim_lends R fits L β l le (block_ptr b o) zero v = Lends-nothing 𝓛 (claimed R fits β (block_ptr b o) 0 v) l
  claim_lends R fits L β l le (block_ptr b o) (suc zero) None = never_lent β R fits b o l
  claim_lends R fits L β l le (block_ptr b o) (suc zero) (Some x) = reader_lends
    where
      -- a claim that is borrowed for κ is borrowed for the meet of κ and β too, by which its value is seen
      reader_lends : Lends 𝓛 (claimed R fits β (block_ptr b o) 1 (Some x)) (lent_claim R fits β (block_ptr b o) 1 (Some x)) l
      reader_lends κ ts inc sp = let Reader : Fml = claimed R fits β (block_ptr b o) 1 (Some x) in via 𝓤 (A.bor (κ ++ β) Reader ∗ lfts 𝓛 ts)
          (base.Logic.mono_l 𝓤 (lfts 𝓛 ts) (𝓛.bors.bor_shorten κ (κ ++ β) Reader (meet_⊑_left κ β)))
          (shows_by R fits b o L x β (κ ++ β) (meet_⊑_right κ β) ts (⊑_meet (span ts) κ β sp (Incl-trans inc le)))
  claim_lends R fits L β l le (block_ptr b o) (suc (suc k)) v = Lends-nothing 𝓛 (claimed R fits β (block_ptr b o) (suc (suc k)) v) l
