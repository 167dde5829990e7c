-- Lent bytes, as resources: how room is lent place by place, filled, read and taken back. Assumes `Logic`.
use Rattle.std.proofs.Common.{◌≡◌, ℕ, zero, suc, ◌+◌, List, [], ◌∷◌, ◌++◌, length, refl, arith}
use seplogic.Ra.Ura.{Ura}
use base.Fraction.{full_share}
use base.Share
use base.Before.{before}
use base.Logic.{SProp, ent, sep, emp, upd_i, id⊢}
use base.Fml.{Lft, Share, Fml, ftrue, fsep, fseps, fwand, fupd, froom, fat, fdead, fbor, fobor, flft, fshr_bor, Incl-refl}
use contract.BorrowLft.{⊑_static, meet_⊑_left}
use ghost.Rules.{Toks}
use types.Logic.{Logic, sem, lfts}
use types.Kit.{‵, raw, ◌⊛◌, some, given, later, ◌$◌, ◌∵◌, !, qed, by, move, keep, drop, use0, use1, use2, split, fsplit, fsplit3, fjoin, pick, learn, frame, assume, suffices, await, updating, now, rewrite, done}
use types.Tokens.{bor_new, lent_back, bor_open, obor_alter}
use types.Na.{before-Incl, before_lent}
use mir.Syntax.{w8, ty_int, ty_array}
use mir.Val.{Val}
use denote.Builtin.{u8}
use denote.Index.{row}
use denote.Memory.{part_at, shared_of}
use denote.Plain.{uint_row_laws}
use denote.RawPtr.{Ptr, block_of, count_of}
use denote.Sharing.{ShrLaws}
use denote.Slice.{elements_shared, elements_shr_laws}
use denote.Steps.{nothing}
use Rattle.core.proofs.mem.Param.{Good}
use Rattle.core.proofs.slice.Rows.{el_out}
use Rattle.lasso_log.specs.Eras.{life, lasts, place, free, owed, lies}
use Rattle.lasso_parts.proofs.RowCalls.{byte, byte_laws}

pub lies_laws : (bytes : List ℕ) (p : Ptr) → ShrLaws (lies bytes p)
lies_laws bytes p = elements_shr_laws u8 (uint_row_laws w8) bytes (block_of p) (count_of p)

module _ {M : Type 1} {𝓤 : Ura M} (𝓛 : Logic 𝓤) where
  open 𝓛 use {H, A}

  abbrev Pr : Type 2
  Pr = SProp 𝓤

  abbrev ◌⊢◌ : Pr → Pr → Type 1
  P ⊢ Q = ent 𝓤 P Q

  abbrev ◌∗◌ : Pr → Pr → Pr
  P ∗ Q = sep 𝓤 P Q

  abbrev ⟦◌⟧ : Fml → Pr
  ⟦ P ⟧ = sem 𝓛 P

  infix 26 ◌⊢◌
  infixr 35 ◌∗◌
  -- what lies there up to the end of an era lies there for any time that ends no later
  pub read_within : (era : ℕ) (bytes : List ℕ) (p : Ptr) (κ : Lft) → ⟦ lasts era κ ⟧ ∗ ⟦ lies bytes p (life era) ⟧ ⊢ ⟦ lies bytes p κ ⟧
  read_within era bytes p κ =
      qed 𝓛 (‵ (fshr_bor κ (λ q. flft (life era) q)) ∷ ‵ (lies bytes p (life era)) ∷ []) ∵
      use0 𝓛 (‵ (before (life era ++ κ) (life era))) (before-Incl 𝓛 (life era ++ κ) (life era) (meet_⊑_left (life era) κ)) $ move ! (1 ∷ 0 ∷ []) $
      use2 𝓛 (‵ (before κ (life era))) (before_lent 𝓛 κ (life era) (life era)) $
      by ! ((lies_laws bytes p).mono M 𝓤 𝓛 κ (life era))

  module _ (era b : ℕ) where
    abbrev κ : Lft
    κ = life era

    pub splits : (m n e : ℕ) → ⟦ free era b e (m + n) ⟧ ⊢ ⟦ free era b e m ⟧ ∗ ⟦ free era b (e + m) n ⟧
    splits zero n e = let here : e ≡ e + 0 = omega arith in let all : 0 + n ≡ n = omega arith in
        qed 𝓛 (‵ (free era b e (0 + n)) ∷ []) ∵ rewrite ! 0 (λ (k : ℕ). ‵ (free era b e k)) all refl $ rewrite ! 0 (λ (k : ℕ). ‵ (free era b k n)) here refl $ nothing ! $ done !
    splits (suc m) n e = let on : e + 1 + m ≡ e + suc m = omega arith in let all : suc m + n ≡ suc (m + n) = omega arith in
        qed 𝓛 (‵ (free era b e (suc m + n)) ∷ []) ∵ rewrite ! 0 (λ (k : ℕ). ‵ (free era b e k)) all refl $ fsplit ! $ move ! (1 ∷ []) $
        use1 𝓛 (‵ (free era b (e + 1) m) ⊛ ‵ (free era b (e + 1 + m) n)) (splits m n (e + 1)) $ split ! $
        move ! (2 ∷ 0 ∷ []) $ fjoin ! $ frame ! $ rewrite ! 0 (λ (k : ℕ). ‵ (free era b k n)) on refl $ done !

    -- room for n bytes
    abbrev pub Space : ℕ → ℕ → Fml
    Space e n = froom (ty_array (ty_int w8) n) b e

    -- room is lent place by place
    pub lends : (n e : ℕ) → ⟦ Space e n ⟧ ⊢ H.⇛ (⟦ free era b e n ⟧ ∗ ⟦ owed era b e n ⟧)
    lends zero e = qed 𝓛 (‵ (Space e 0) ∷ []) ∵ updating ! $ now ! $ drop ! $ nothing ! $ nothing ! $ done !
    lends (suc n) e = qed 𝓛 (‵ (Space e (suc n)) ∷ []) ∵ updating ! $
        use1 𝓛 (‵ (place b e) ⊛ ‵ (Space (e + 1) n)) (𝓛.laws.room_uncons (ty_int w8) n b e) $ split ! $ bor_new ! tt κ $ move ! (2 ∷ []) $
        use1 𝓛 (later (‵ (free era b (e + 1) n) ⊛ ‵ (owed era b (e + 1) n))) (lends n (e + 1)) $ await ! tt $ split ! $
        -- [free; owed; the place's borrow; its lender]
        move ! (2 ∷ 0 ∷ []) $ fjoin ! $ move ! (2 ∷ 1 ∷ []) $ fjoin ! $ now ! $ move ! (1 ∷ 0 ∷ []) $ done !

    -- and had back once the era is over
    pub gets_back : (n e : ℕ) → ⟦ fdead κ ⟧ ∗ ⟦ owed era b e n ⟧ ⊢ H.⇛ (⟦ Space e n ⟧)
    gets_back zero e = qed 𝓛 (‵ (fdead κ) ∷ ‵ (owed era b e 0) ∷ []) ∵ updating ! $ now ! $ keep ! [] $ by ! (𝓛.laws.room_nil (ty_int w8) b e)
    gets_back (suc n) e = qed 𝓛 (‵ (fdead κ) ∷ ‵ (owed era b e (suc n)) ∷ []) ∵ updating ! $
        use1 𝓛 (‵ (fdead κ) ⊛ ‵ (fdead κ)) (𝓛.lfts.dead_dup κ) $ split ! $ move ! (2 ∷ []) $ fsplit ! $ move ! (2 ∷ 0 ∷ []) $ lent_back ! tt {κ = κ} {P = place b e} $
        move ! (2 ∷ 1 ∷ []) $ use2 𝓛 (later (‵ (Space (e + 1) n))) (gets_back n (e + 1)) $ await ! tt $ now ! $ move ! (1 ∷ 0 ∷ []) $ by ! (𝓛.laws.room_cons (ty_int w8) n b e)

    -- places that are open: a part of the era's token for each, and the rest of it
    abbrev pub opened : Share → ℕ → ℕ → Fml
    opened q e zero = flft κ q
    opened q e (suc n) = fsep (fobor κ (Share.left q) (place b e)) (opened (Share.right q) (e + 1) n)

    pub opens_all : (n e : ℕ) (q : Share) → ⟦ free era b e n ⟧ ∗ ⟦ flft κ q ⟧ ⊢ H.⇛ (⟦ Space e n ⟧ ∗ ⟦ opened q e n ⟧)
    opens_all zero e q = qed 𝓛 (‵ (free era b e 0) ∷ ‵ (flft κ q) ∷ []) ∵ updating ! $ now ! $ drop ! $
        use0 𝓛 (‵ (Space e 0)) (𝓛.laws.room_nil (ty_int w8) b e) $ done !
    opens_all (suc n) e q = let l : Share = Share.left q in let r : Share = Share.right q in
        qed 𝓛 (‵ (free era b e (suc n)) ∷ ‵ (flft κ q) ∷ []) ∵ updating ! $ move ! (1 ∷ []) $ use1 𝓛 (‵ (flft κ l) ⊛ ‵ (flft κ r)) (𝓛.lfts.lft_split κ q) $ split ! $
        move ! (2 ∷ []) $ fsplit ! $ move ! (0 ∷ 2 ∷ []) $ bor_open ! tt {κ = κ} {q = l} {P = place b e} $ move ! (2 ∷ 3 ∷ []) $
        use2 𝓛 (later (‵ (Space (e + 1) n) ⊛ ‵ (opened r (e + 1) n))) (opens_all n (e + 1) r) $ await ! tt $ split ! $
        -- [space; opened; the open borrow; its place]
        move ! (2 ∷ 1 ∷ []) $ fjoin ! $ now ! $ move ! (2 ∷ 1 ∷ 0 ∷ []) $ use2 𝓛 (‵ (Space e (suc n))) (𝓛.laws.room_cons (ty_int w8) n b e) $ done !

    -- a place that holds a byte is room
    emptied : (x e : ℕ) → ⟦ part_at u8 full_share x b e ⟧ ⊢ ⟦ place b e ⟧
    emptied x e = qed 𝓛 (‵ (part_at u8 full_share x b e) ∷ []) ∵
        use1 𝓛 (some (λ (v : Val). given (Good byte v) (‵ (fat full_share (ty_int w8) b e v) ⊛ ‵ (u8.own_val x (v ∷ []))))) (el_out byte 𝓛 b x e) $ pick ! (λ v. learn ! (λ tv. split ! $
        keep ! (0 ∷ []) $ by ! (𝓛.laws.at_room (ty_int w8) b e v)))

    way_back : (x e : ℕ) → emp 𝓤 ⊢ ⟦ fwand (fsep (fdead κ) (fseps (part_at u8 full_share x b e ∷ []))) (fupd (place b e)) ⟧
    unfolding fseps
    way_back x e = qed 𝓛 [] ∵ assume ! (‵ (fsep (fdead κ) (fsep (part_at u8 full_share x b e) ftrue))) $ suffices ! ⟦ place b e ⟧ (upd_i 𝓤 ⟦ place b e ⟧) $
        fsplit3 ! $ keep ! (1 ∷ []) $ by ! (emptied x e)

    -- a place that was opened and holds a byte now is closed, for good
    closes_one : (x e : ℕ) (q : Share) → ⟦ fobor κ q (place b e) ⟧ ∗ ⟦ part_at u8 full_share x b e ⟧ ⊢ H.⇛ (⟦ shared_of u8 x b e κ ⟧ ∗ ⟦ flft κ q ⟧)
    unfolding fseps
    closes_one x e q = let Q : Fml = part_at u8 full_share x b e in let ts : Toks = (κ, q) ∷ [] in
        qed 𝓛 (‵ (fobor κ q (place b e)) ∷ ‵ Q ∷ []) ∵ updating ! $ move ! (1 ∷ []) $ nothing ! $ move ! (1 ∷ 0 ∷ []) $ fjoin ! $
        use0 𝓛 (‵ (fwand (fsep (fdead κ) (fseps (Q ∷ []))) (fupd (place b e)))) (way_back x e) $ move ! (2 ∷ 1 ∷ 0 ∷ []) $ obor_alter ! tt (Q ∷ []) $
        use1 𝓛 (‵ (fbor κ Q) ⊛ ‵ ftrue) (id⊢ 𝓤 _) $ split ! $ move ! (0 ∷ 2 ∷ []) $
        use2 𝓛 (later (‵ (shared_of u8 x b e κ) ⊛ raw (lfts 𝓛 ts))) (byte_laws.shares 𝓛 x κ ts b e (⊑_static κ) (Incl-refl κ)) $ await ! tt $ split ! $ now ! $ keep ! (0 ∷ 1 ∷ []) $ done !

    pub closes_all : (xs : List ℕ) (e : ℕ) (q : Share) → ⟦ row u8 full_share xs b e ⟧ ∗ ⟦ opened q e (length xs) ⟧ ⊢ H.⇛ (⟦ elements_shared u8 xs b e κ ⟧ ∗ ⟦ flft κ q ⟧)
    closes_all [] e q = qed 𝓛 (‵ (row u8 full_share [] b e) ∷ ‵ (opened q e 0) ∷ []) ∵ updating ! $ now ! $ drop ! $ nothing ! $ done !
    closes_all (x ∷ xs) e q = let l : Share = Share.left q in let r : Share = Share.right q in
        qed 𝓛 (‵ (row u8 full_share (x ∷ xs) b e) ∷ ‵ (opened q e (suc (length xs))) ∷ []) ∵ updating ! $ fsplit ! $ move ! (2 ∷ []) $ fsplit ! $ move ! (0 ∷ 2 ∷ []) $
        use2 𝓛 (later (‵ (shared_of u8 x b e κ) ⊛ ‵ (flft κ l))) (closes_one x e l) $ await ! tt $ split ! $ move ! (3 ∷ 2 ∷ []) $
        use2 𝓛 (later (‵ (elements_shared u8 xs b (e + 1) κ) ⊛ ‵ (flft κ r))) (closes_all xs (e + 1) r) $ await ! tt $ split ! $
        -- [the others; the rest of the token; the first; its part of the token]
        move ! (2 ∷ 0 ∷ []) $ fjoin ! $ move ! (2 ∷ 1 ∷ []) $ use2 𝓛 (‵ (flft κ q)) (𝓛.lfts.lft_join κ q) $ now ! $ move ! (1 ∷ 0 ∷ []) $ done !
