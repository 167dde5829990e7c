-- A `&` to a latch is made of a borrow of it, whatever its word is. Assumes `Logic`.
-- The borrow is cut into one of the word and one of the value. The value is lent for a first lifetime, and a name begins with all lots of nothing. The
-- borrow of the word is opened, and closed over the word with what stands beside it, of which the word is a part (`standing`). An invariant with that
-- borrow may be known to everybody (`known_to_all`), and is what each `&` holds.
use Rattle.std.proofs.Common.{◌≡◌, ℕ, zero, ◌+◌, ◌^◌, List, [], ◌∷◌, ◌++◌, sym, subst}
use seplogic.Ra.Ura.{Ura}
use mir.Syntax.{Ty}
use mir.Val.{Val}
use base.Fraction.{full_share}
use base.FractionLaws.{Counts-all}
use base.Logic.{SProp, ent, sep, wand, ex, all_e, via, apply∗}
use base.Fml.{Lft, GName, Share, Incl, Fml, ftrue, fsep, fex, fbor, flft, finv, Incl-refl, Incl-trans}
use base.Before.{before}
use contract.BorrowLft.{meet_⊑_left}
use ghost.Rules.{Toks, span}
use types.Logic.{Logic, sem, lfts}
use types.Kit.{‵, raw, ◌⊛◌, some, later, ◌$◌, ◌∵◌, !, qed, by, move, keep, use0, use1, use2, split, split3, join, fsplit, fjoin, fjoin3, fpick, fpack, pick, await, updating, now, done}
use types.Tokens.{bor_open}
use types.Na.{before-Incl}
use types.Owned.{basic, own_new}
use denote.RattleType.{RattleType, Denots}
use denote.Laws.{Lawful}
use denote.Memory.{part_of, part_at, cell_at}
use denote.RawPtr.{block_ptr}
use denote.Steps.{nothing}
use denote.Shares.{Shares, bor-Cut}
use denote.Sharing.{ends, always}
use denote.SharingLaws.{some_shr_laws, beside_shr_laws, ends_shr_laws, always_shr_laws}
use denote.Param.{layout}
use denote.Param.Laws.{Laws}
use denote.Struct.Struct.{Struct}
use denote.Struct.Laws.{u64-laws}
use denote.Struct.Members.{Member, row_of, rows_of, parts_at}
use denote.Struct.Parts.{PartsBack, Struct-parts, shape_of}
use denote.Struct.Lending.{Law}
use Rattle.core.specs.Sync.RawAtomic.{word}
use Rattle.core.proofs.cell.Borrows.{flag, by_one}
use Rattle.core.proofs.tally.Steps.{word_out, word_in}
use Rattle.lasso_lock.specs.Latches.{holds, naming, named_as, all_but, Keeping, value_at, content, staged, kept_word, known, shared_latch}
use Rattle.lasso_lock.specs.declared.latch.Fits.{Ghosts}
use Rattle.lasso_lock.specs.contracts.latch.Latch as S
use Rattle.lasso_lock.proofs.latch.Latch.TheLaw.Statement.{statement}
use Rattle.lasso_lock.proofs.Lots.{lots_in}
use Rattle.lasso_lock.proofs.Lending.{Begun, lends, closes_over}
use Rattle.lasso_lock.proofs.Steps.{begins}

module _ {M : Type 1} {𝓤 : Ura M} (𝓛 : Logic 𝓤) (m : Member) (G : RattleType) (g : Ghosts m.row.Denot G.Denot) (tag : G.Denot) (L : Lawful 𝓛 (row_of m)) (b o : ℕ) (κ : Lft) where
  open 𝓛 use {H, A}

  abbrev Pr : Type 2
  Pr = SProp 𝓤

  abbrev ◌⊢◌ : Pr → Pr → Type 1
  P ⊢ Q = ent 𝓤 P Q

  abbrev ◌∗◌ : Pr → Pr → Pr
  P ∗ Q = sep 𝓤 P Q

  abbrev ⟦◌⟧ : Fml → Pr
  ⟦ P ⟧ = sem 𝓛 P

  infix 26 ◌⊢◌
  infixr 35 ◌∗◌
  abbrev R : RattleType
  R = row_of m

  abbrev fits : R.Denot → Type 0
  fits = g.fits tag

  abbrev members : List Member
  members = flag ∷ m ∷ []

  abbrev Data : RattleType
  Data = Struct (shape_of [] members)

  abbrev Whole : Fml
  Whole = part_at (S.the_written R G g) full_share tag b o

  abbrev Both : ℕ → R.Denot → Fml
  Both n x = part_at Data full_share (n, (x, tt)) b o

  abbrev Value : R.Denot → Fml
  Value x = part_at R full_share x b (o + value_at R)

  abbrev Word : Fml
  Word = fex ℕ (word b (o + 0))

  abbrev C : Fml
  C = content R fits b o

  -- how the two parts make the struct again
  abbrev Back : Pr
  Back = PartsBack 𝓛 full_share [] members b o

  apart : ⟦ Whole ⟧ ⊢ ⟦ Word ⟧ ∗ ⟦ C ⟧ ∗ Back
  unfolding part_of
  apart = qed 𝓛 (‵ Whole ∷ []) ∵ fpick ! (λ vs. fsplit ! $ move ! (1 ∷ []) $ fpick ! (λ n. fpick ! (λ x. fsplit ! $ fpick ! (λ fit. move ! (2 ∷ 1 ∷ []) $ fjoin ! $
      fpack ! (List Val) (λ us. fsep (cell_at full_share Data.mir us b o) (Data.own_val (n, (x, tt)) us)) vs $
      use1 𝓛 ((‵ (part_at (row_of flag) full_share n b (o + 0)) ⊛ ‵ (Value x) ⊛ ‵ ftrue) ⊛ raw Back) (Struct-parts 𝓛 full_share [] members (u64-laws.lawful 𝓛, (L, tt)) (n, (x, tt)) b o) $
      split ! $ split3 ! $ use1 𝓛 (‵ (word b (o + 0) n)) (word_out 𝓛 b (o + 0) n) $ fpack ! ℕ (word b (o + 0)) n $ move ! (2 ∷ []) $ fpack ! (fits x) (λ _. ftrue) fit $ move ! (0 ∷ 2 ∷ []) $ fjoin ! $
      fpack ! R.Denot (λ y. fsep (holds (fits y)) (Value y)) x $ keep ! (1 ∷ 0 ∷ 2 ∷ []) $ done !))))

  whole : (n : ℕ) (x : R.Denot) → fits x → ⟦ Both n x ⟧ ⊢ ⟦ Whole ⟧
  unfolding part_of
  whole n x fit = qed 𝓛 (‵ (Both n x) ∷ []) ∵ fpick ! (λ vs. let Of : ℕ → R.Denot → Fml = λ w y. fsep (holds (fits y)) (Data.own_val (w, (y, tt)) vs) in fsplit ! $ nothing ! $ fpack ! (fits x) (λ _. ftrue) fit $
      move ! (0 ∷ 2 ∷ []) $ fjoin ! $ fpack ! R.Denot (Of n) x $ fpack ! ℕ (λ w. fex R.Denot (Of w)) n $ move ! (1 ∷ 0 ∷ []) $ fjoin ! $
      fpack ! (List Val) (λ us. fsep (cell_at full_share Data.mir us b o) ((S.the_written R G g).own_val tag us)) vs $ done !)

  together : ⟦ Word ⟧ ∗ ⟦ C ⟧ ∗ Back ⊢ ⟦ Whole ⟧
  together = qed 𝓛 (‵ Word ∷ ‵ C ∷ raw Back ∷ []) ∵ fpick ! (λ n. use1 𝓛 (‵ (part_at (row_of flag) full_share n b (o + 0))) (word_in 𝓛 b (o + 0) n) $ move ! (1 ∷ []) $ fpick ! (λ x. fsplit ! $
      fpick ! (λ fit. move ! (2 ∷ 1 ∷ 0 ∷ []) $ fjoin3 ! $ move ! (1 ∷ []) $
      use1 𝓛 (raw (wand 𝓤 ⟦ parts_at full_share members zero (n, (x, tt)) b o ⟧ ⟦ Both n x ⟧)) (all_e 𝓤 (λ (a : Denots (rows_of members)). wand 𝓤 ⟦ parts_at full_share members zero a b o ⟧ ⟦ part_at Data full_share a b o ⟧) (n, (x, tt))) $
      move ! (1 ∷ 0 ∷ []) $ use2 𝓛 (‵ (Both n x)) (apply∗ 𝓤 ⟦ parts_at full_share members zero (n, (x, tt)) b o ⟧ ⟦ Both n x ⟧) $ by ! (whole n x fit))))

  module _ (γ : GName) where
    abbrev t : Keeping
    t = (κ, γ)

    abbrev I : Fml
    I = kept_word R fits b o t

    abbrev Given : Pr
    Given = A.bor κ Word ∗ ⟦ all_but 0 γ 0 ⟧ ∗ ⟦ Begun 𝓛 R fits b o t ⟧

    word_there : ⟦ I ⟧ ⊢ ⟦ Word ⟧
    word_there = qed 𝓛 (‵ I ∷ []) ∵ fpick ! (λ n. fsplit ! $ keep ! (0 ∷ []) $ fpack ! ℕ (word b (o + 0)) n $ done !)

    -- the borrow of the word becomes one of the word with what stands beside it
    standing : (q : Share) → Given ∗ A.lft κ q ⊢ H.⇛ (A.bor κ I ∗ A.lft κ q)
    standing q = qed 𝓛 ((‵ (fbor κ Word) ⊛ ‵ (all_but 0 γ 0) ⊛ ‵ (Begun 𝓛 R fits b o t)) ∷ ‵ (flft κ q) ∷ []) ∵ updating ! $ split3 ! $ move ! (0 ∷ 3 ∷ []) $ bor_open ! tt $ move ! (1 ∷ []) $ fpick ! (λ n.
        move ! (2 ∷ 3 ∷ []) $ use2 𝓛 (later (‵ (staged R fits b o t n))) (via 𝓤 _ (begins 𝓛 R fits b o t n) (basic 𝓛 ⟦ staged R fits b o t n ⟧)) $ await ! tt $ move ! (1 ∷ 0 ∷ []) $ fjoin ! $
        fpack ! ℕ (λ w. fsep (word b (o + 0) w) (staged R fits b o t w)) n $ move ! (1 ∷ 0 ∷ []) $
        use2 𝓛 (later (‵ (fbor κ I) ⊛ ‵ (flft κ q))) (closes_over 𝓛 κ q Word I word_there) $ await ! tt $ split ! $ now ! $ done !)

    -- an invariant with that borrow is what every `&` knows
    known_to_all : A.bor κ I ⊢ H.⇛ ⟦ shared_latch R fits (block_ptr b o) κ ⟧
    known_to_all = qed 𝓛 (‵ (fbor κ I) ∷ []) ∵ updating ! $ use1 𝓛 (later (‵ (finv (fbor κ I)))) (𝓛.invs.inv_new (fbor κ I)) $ await ! tt $
        use0 𝓛 (‵ (before κ κ)) (before-Incl 𝓛 κ κ (Incl-refl κ)) $ fjoin ! $ fpack ! Keeping (λ s. known R fits b o s κ) t $ now ! $ done !

    guarded : (q : Share) → Given ∗ A.lft κ q ⊢ H.⇛ (⟦ shared_latch R fits (block_ptr b o) κ ⟧ ∗ A.lft κ q)
    guarded q = qed 𝓛 (raw Given ∷ ‵ (flft κ q) ∷ []) ∵ updating ! $ use2 𝓛 (later (‵ (fbor κ I) ⊛ ‵ (flft κ q))) (standing q) $ await ! tt $ split ! $
        use1 𝓛 (later (‵ (shared_latch R fits (block_ptr b o) κ))) known_to_all $ await ! tt $ now ! $ done !

  lent_out : (l : Lft) → Shares 𝓛 R l → (ts : Toks) → Incl (span ts) l → Incl (span ts) κ → A.bor κ Whole ∗ lfts 𝓛 ts ⊢ H.⇛ (⟦ shared_latch R fits (block_ptr b o) κ ⟧ ∗ lfts 𝓛 ts)
  lent_out l shares ts inc sp = qed 𝓛 (‵ (fbor κ Whole) ∷ raw (lfts 𝓛 ts) ∷ []) ∵ updating ! $
      use2 𝓛 (later (‵ (fbor κ Word) ⊛ ‵ (fbor κ C) ⊛ raw (lfts 𝓛 ts))) (bor-Cut 𝓛 κ ts sp Whole Word C Back together apart) $ await ! tt $ split3 ! $
      use0 𝓛 (later (some (λ (γ : GName). ‵ (named_as γ 0 full_share)))) (via 𝓤 _ (own_new 𝓛 naming (full_share, 0)) (basic 𝓛 (ex 𝓤 (λ (γ : GName). ⟦ named_as γ 0 full_share ⟧)))) $ await ! tt $ pick ! (λ γ.
      nothing ! $ fjoin ! $ use1 𝓛 (‵ (all_but 0 γ 0)) (lots_in 𝓛 γ 0 (2 ^ 63) full_share (Counts-all 63)) $ move ! (2 ∷ 3 ∷ []) $
      use2 𝓛 (later (‵ (Begun 𝓛 R fits b o (κ, γ)) ⊛ raw (lfts 𝓛 ts))) (lends 𝓛 R fits b o (κ, γ) l shares ts inc sp) $ await ! tt $ split ! $
      move ! (2 ∷ 0 ∷ []) $ join ! $ move ! (2 ∷ 0 ∷ []) $ join ! $
      by ! (by_one 𝓛 κ ts sp (Given γ) ⟦ shared_latch R fits (block_ptr b o) κ ⟧ (guarded γ)))

-- the value's type, as the member of the struct that it is
abbrev as_member : RattleType → Member
as_member T = record { row = T; ty = layout T }

-- what outlives both type arguments outlives the value's type
lives_within : (T G : RattleType) (others : Lft) → Incl ((T.lives ++ (G.lives ++ [])) ++ others) T.lives
lives_within T G others = Incl-trans (meet_⊑_left (T.lives ++ (G.lives ++ [])) others) (meet_⊑_left T.lives (G.lives ++ []))

pub shares : (T G : RattleType) (g : Ghosts T.Denot G.Denot) (L : Laws T) (K : Laws G) → statement T G g L K
shares T G g L K = let m : Member = as_member T in let V : RattleType = row_of m in
    -- the value's type, at the one layout that it is stored in
    let at_layout : T ≡ V = λ i. record T { mir = L.one i } in
    let kept : G.Denot → ℕ → ℕ → Keeping → Fml = λ tag b o t. fbor t.0 (kept_word V (g.fits tag) b o t) in
    subst (λ (τ : List Ty). Law (S.the_written (record T { mir = τ }) G g)) (sym L.one) (record {
      shr_laws = λ tag b o. some_shr_laws Keeping (known V (g.fits tag) b o) (λ t. beside_shr_laws (ends t.0) (always (kept tag b o t)) (ends_shr_laws t.0) (always_shr_laws (kept tag b o t)));
      shares = λ M 𝓤 𝓛 tag κ ts b o inc sp. let lawful : Lawful 𝓛 V = subst (Lawful 𝓛) at_layout (L.lawful 𝓛) in let lends_value : Shares 𝓛 V T.lives = subst (λ (R : RattleType). Shares 𝓛 R T.lives) at_layout (L.shares 𝓛) in
          lent_out 𝓛 m G g tag lawful b o κ T.lives lends_value ts (Incl-trans inc (lives_within T G _)) sp;
    })
