-- Texts that lie in chunks, as a resource: how a text is put to them, and how one is taken out of them.
--
-- Each text of the list is kept as two lasting facts: that its chunk is written, and that the cell at its
-- offset in that chunk is written with something that means the text. A lasting fact can be had any number of
-- times. So one more text is a matter of putting its two facts at the end of the list, and a fact of a
-- position below the length comes from a walk along the list, which copies it and leaves the list as it was.
-- Next to the texts the book keeps the rights to bytes that nobody has taken, which an update of one kind
-- takes from, and one of another kind adds to. Assumes `Logic`.
use Rattle.std.proofs.Common.{◌≡◌, ℕ, zero, suc, ◌+◌, ◌<◌, ◌≤◌, List, [], ◌∷◌, ◌++◌, length, slice_index_or, sym, refl, arith}
use mathlib.Core.List.{IsPrefix}
use seplogic.Ra.Ura.{Ura}
use base.Stored.{Coded}
use base.Logic.{SProp, ent, sep, emp, wand, all, upd, via, upd_i, all_i}
use base.Fml.{Fml, ftrue, fsep}
use base.Shift.{Keyless}
use types.Logic.{Logic, sem}
use types.Tokens.{res_dup}
use types.Kit.{‵, ◌⊛◌, given, some, later, ◌$◌, ◌∵◌, !, qed, by, move, drop, split, join, fsplit, fjoin, fpick, fpack, pick, learn, frame, assume, suffices, updating, await, now, done, rewrite, use1, use2}
use denote.Steps.{nothing}
use denote.RattleType.{RattleType}
use Rattle.std.specs.declared.option.Option.TheVariants.{None}
use Rattle.logbook.specs.Pages.{Cell, Book}
use Rattle.logbook.specs.Kept.{Rules, rules, offer_owns}
use Rattle.boxcar.specs.Slot.{written, Named}
use Rattle.lasso_parts.specs.Texts.{Text}
use Rattle.lasso_log.specs.Buckets.{changed_at}
use Rattle.lasso_log.specs.Chunks.{era_named, chunk_named, offset_of, name_at, IsCellAt, held, holds_text, in_chunk, filled, lined, ListOnlyGrows, PutsLastAt}
use Rattle.lasso_log.specs.LentBuckets.{LentBucket, more_taken, next_bytes, untaken, all_untaken, TakesBytesAt, AddsBucket}
use Rattle.lasso_log.proofs.LentRights.{untaken_keyless, goes_out, comes_in}
use Rattle.lasso_log.proofs.Opened.{Cells, Sees, At, looks}

module _ (V R : RattleType) (cells : V.Denot → List Named) (meaning : R.Denot → Text) (lasts : R.Denot → ℕ → Type 0) where
  -- what lies in the chunks names no token of one thread
  pub lined_keyless : (names : List ℕ) (n : ℕ) (texts : List Text) → Keyless (lined V R cells meaning lasts names n texts)
  lined_keyless names n [] = tt
  lined_keyless names n (t ∷ ts) = ((λ v. (tt, λ x. (tt, λ e. tt))), lined_keyless names (suc n) ts)

  -- and so does all that a book keeps
  pub kept_keyless : (names : List ℕ) (texts : List Text) (buckets : List LentBucket) → Keyless (fsep (lined V R cells meaning lasts names 0 texts) (all_untaken buckets))
  kept_keyless names texts buckets = (lined_keyless names 0 texts, untaken_keyless buckets)

-- an item at a position stays there in a longer list
pub stands_still : (xs ys : List Text) (n : ℕ) → IsPrefix xs ys → n < length xs → slice_index_or ys n [] ≡ slice_index_or xs n []
stands_still [] ys n p l = absurd (omega arith)
stands_still (x ∷ xs) [] n p l = absurd (cc (p.1))
stands_still (x ∷ xs) (y ∷ ys) zero p l = let h : x ≡ y = cc (p.1) in sym h
stands_still (x ∷ xs) (y ∷ ys) (suc n) p l = stands_still xs ys n (p.0, cc (p.1)) (omega arith)

pub prefix_short : (xs ys : List Text) → IsPrefix xs ys → length xs ≤ length ys
prefix_short [] ys p = omega arith
prefix_short (x ∷ xs) [] p = absurd (cc (p.1))
prefix_short (x ∷ xs) (y ∷ ys) p = let le : length xs ≤ length ys = prefix_short xs ys (p.0, cc (p.1)) in omega arith

module _ {M : Type 1} {𝓤 : Ura M} (𝓛 : Logic 𝓤) (V R : RattleType) (cells : V.Denot → List Named) (meaning : R.Denot → Text) (lasts : R.Denot → ℕ → Type 0) where
  open 𝓛 use {H}

  abbrev Pr : Type 2
  Pr = SProp 𝓤

  abbrev ◌⊢◌ : Pr → Pr → Type 1
  P ⊢ Q = ent 𝓤 P Q

  abbrev ◌∗◌ : Pr → Pr → Pr
  P ∗ Q = sep 𝓤 P Q

  abbrev ◌-∗◌ : Pr → Pr → Pr
  P -∗ Q = wand 𝓤 P Q

  abbrev ⟦◌⟧ : Fml → Pr
  ⟦ P ⟧ = sem 𝓛 P

  infix 26 ◌⊢◌
  infixr 35 ◌∗◌
  infixr 30 ◌-∗◌
  -- the cell of position n is filled with this text
  abbrev pub Filled : List ℕ → ℕ → Text → Fml
  Filled names n text = filled V R cells meaning lasts (era_named names) (chunk_named names n) (offset_of n) text

  abbrev pub Lined : List ℕ → ℕ → List Text → Fml
  Lined = lined V R cells meaning lasts

  fills_cell : (era cell : ℕ) (x : R.Denot) (text : Text) → meaning x ≡ text → lasts x era → ⟦ written R cell x ⟧ ⊢ ⟦ holds_text V R cells meaning lasts era cell text ⟧
  fills_cell era cell x text is long = qed 𝓛 (‵ (written R cell x) ∷ []) ∵ nothing ! $ fpack ! ((meaning x ≡ text) × lasts x era) (λ _. ftrue) (is, long) $ move ! (1 ∷ 0 ∷ []) $ fjoin ! $
      fpack ! R.Denot (held V R cells meaning lasts era cell text) x $ done !

  -- the two facts of a position
  pub fills : (era chunk offset : ℕ) (v : V.Denot) (x : R.Denot) (text : Text) → meaning x ≡ text → lasts x era
      → ⟦ written V chunk v ⟧ ∗ ⟦ written R (name_at (cells v) offset) x ⟧ ⊢ ⟦ filled V R cells meaning lasts era chunk offset text ⟧
  fills era chunk offset v x text is long = let cell : ℕ = name_at (cells v) offset in qed 𝓛 (‵ (written V chunk v) ∷ ‵ (written R cell x) ∷ []) ∵ move ! (1 ∷ []) $
      use1 𝓛 (‵ (holds_text V R cells meaning lasts era cell text)) (fills_cell era cell x text is long) $ move ! (1 ∷ 0 ∷ []) $ fjoin ! $ fpack ! V.Denot (in_chunk V R cells meaning lasts era chunk offset text) v $ done !

  pub fills_position : (names : List ℕ) (n : ℕ) (chunk cell : ℕ) (v : V.Denot) (x : R.Denot) (text : Text) → IsCellAt names n chunk (cells v) cell → meaning x ≡ text → lasts x (era_named names)
      → ⟦ written V chunk v ⟧ ∗ ⟦ written R cell x ⟧ ⊢ ⟦ Filled names n text ⟧
  fills_position names n chunk cell v x text at is long = qed 𝓛 (‵ (written V chunk v) ∷ ‵ (written R cell x) ∷ []) ∵ rewrite ! 0 (λ (k : ℕ). ‵ (written V k v)) at.0 refl $
      rewrite ! 1 (λ (k : ℕ). ‵ (written R k x)) at.1 refl $ by ! (fills (era_named names) (chunk_named names n) (offset_of n) v x text is long)

  twice : (era chunk offset : ℕ) (text : Text) → ⟦ filled V R cells meaning lasts era chunk offset text ⟧ ⊢ ⟦ filled V R cells meaning lasts era chunk offset text ⟧ ∗ ⟦ filled V R cells meaning lasts era chunk offset text ⟧
  twice era chunk offset text = let F : Fml = filled V R cells meaning lasts era chunk offset text in qed 𝓛 (‵ F ∷ []) ∵
      fpick ! (λ v. fsplit ! $ res_dup ! $ move ! (2 ∷ []) $ fpick ! (λ x. fsplit ! $ move ! (1 ∷ []) $ fpick ! (λ is. drop ! $ res_dup ! $
      move ! (2 ∷ 0 ∷ []) $ use2 𝓛 (‵ F) (fills era chunk offset v x text is.0 is.1) $ frame ! $ move ! (1 ∷ 0 ∷ []) $ by ! (fills era chunk offset v x text is.0 is.1))))

  -- one text more, at the end
  pub grown : (names : List ℕ) (n : ℕ) (texts : List Text) (text : Text) → ⟦ Lined names n texts ⟧ ∗ ⟦ Filled names (n + length texts) text ⟧ ⊢ ⟦ Lined names n (texts ++ text ∷ []) ⟧
  grown names n [] text = let here : n + 0 ≡ n = omega arith in qed 𝓛 (‵ ftrue ∷ ‵ (Filled names (n + 0) text) ∷ []) ∵ drop ! $
      rewrite ! 0 (λ (k : ℕ). ‵ (Filled names k text)) here refl $ nothing ! $ move ! (1 ∷ 0 ∷ []) $ join ! $ done !
  grown names n (t ∷ texts) text = let on : n + suc (length texts) ≡ suc n + length texts = omega arith in
      qed 𝓛 ((‵ (Filled names n t) ⊛ ‵ (Lined names (suc n) texts)) ∷ ‵ (Filled names (n + suc (length texts)) text) ∷ []) ∵ split ! $ frame ! $ move ! (1 ∷ []) $
      rewrite ! 0 (λ (k : ℕ). ‵ (Filled names k text)) on refl $ move ! (1 ∷ 0 ∷ []) $ by ! (grown names (suc n) texts text)

  -- a copy of the facts of one position
  pub taken : (names : List ℕ) (n : ℕ) (texts : List Text) (k : ℕ) → k < length texts → ⟦ Lined names n texts ⟧ ⊢ ⟦ Lined names n texts ⟧ ∗ ⟦ Filled names (n + k) (slice_index_or texts k []) ⟧
  taken names n [] k low = absurd (omega arith)
  taken names n (t ∷ texts) zero low = let here : n ≡ n + 0 = omega arith in qed 𝓛 ((‵ (Filled names n t) ⊛ ‵ (Lined names (suc n) texts)) ∷ []) ∵ split ! $
      use1 𝓛 (‵ (Filled names n t) ⊛ ‵ (Filled names n t)) (twice (era_named names) (chunk_named names n) (offset_of n) t) $ split ! $ move ! (0 ∷ 2 ∷ 1 ∷ []) $ fjoin ! $ frame ! $
      rewrite ! 0 (λ (k : ℕ). ‵ (Filled names k t)) here refl $ done !
  taken names n (t ∷ texts) (suc k) low = let on : suc n + k ≡ n + suc k = omega arith in let found : Text = slice_index_or texts k [] in
      qed 𝓛 ((‵ (Filled names n t) ⊛ ‵ (Lined names (suc n) texts)) ∷ []) ∵ split ! $ move ! (1 ∷ []) $
      use1 𝓛 (‵ (Lined names (suc n) texts) ⊛ ‵ (Filled names (suc n + k) found)) (taken names (suc n) texts k (omega arith)) $ split ! $ move ! (2 ∷ 0 ∷ []) $ fjoin ! $ frame ! $
      rewrite ! 0 (λ (j : ℕ). ‵ (Filled names j found)) on refl $ done !

  module _ {E : Type 0} (listed : List E → List Text) (buckets : List E → List LentBucket) where
    abbrev pub keeps : List ℕ → List E → Fml
    keeps names shown = fsep (Lined names 0 (listed shown)) (all_untaken (buckets shown))

    -- an update that puts last what the two facts are of
    pub offered : (moves : List E → List E → ℕ → Type 0) (names : List ℕ) (position chunk cell : ℕ) (text : Text) (v : V.Denot) (x : R.Denot)
        → ((before after : List E) (answer : ℕ) → moves before after answer → PutsLastAt listed position text before after × (buckets after ≡ buckets before)) → IsCellAt names position chunk (cells v) cell → meaning x ≡ text → lasts x (era_named names)
        → ⟦ written V chunk v ⟧ ∗ ⟦ written R cell x ⟧ ⊢ ⟦ offer_owns (keeps names) moves (λ (_ : ℕ). ftrue) None ⟧
    offered moves names position chunk cell text v x puts at is long = let F : Fml = Filled names position text in
        let Goes : List E × List E × ℕ → Pr = λ t. ⟦ keeps names t.0 ⟧ -∗ upd 𝓤 (⟦ keeps names t.1 ⟧ ∗ ⟦ ftrue ⟧) in
        via 𝓤 _ (fills_position names position chunk cell v x text at is long)
        (all_i 𝓤 (λ (t : List E × List E × ℕ). all 𝓤 (λ (_ : moves t.0 t.1 t.2). Goes t)) (λ t. all_i 𝓤 (λ (_ : moves t.0 t.1 t.2). Goes t) (λ m.
        let moved = puts t.0 t.1 t.2 m in let put : PutsLastAt listed position text t.0 t.1 = moved.0 in let last : position ≡ 0 + length (listed t.0) = omega (arith, put.1) in
        qed 𝓛 (‵ F ∷ []) ∵ assume ! (‵ (keeps names t.0)) $ suffices ! _ (upd_i 𝓤 (⟦ keeps names t.1 ⟧ ∗ ⟦ ftrue ⟧)) $ fsplit ! $ move ! (2 ∷ []) $
        rewrite ! 0 (λ (k : ℕ). ‵ (Filled names k text)) last refl $ move ! (1 ∷ 0 ∷ []) $
        use2 𝓛 (‵ (Lined names 0 (listed t.0 ++ text ∷ []))) (grown names 0 (listed t.0) text) $
        rewrite ! 0 (λ (ts : List Text). ‵ (Lined names 0 ts)) (sym put.0) refl $ rewrite ! 1 (λ (bs : List LentBucket). ‵ (all_untaken bs)) (sym moved.1) refl $ fjoin ! $ frame ! $ nothing ! $ done !)))

    -- an update that takes bytes needs nothing, leaves the texts as they are, and has the right to the bytes
    pub offered_bytes : (moves : List E → List E → ℕ → Type 0) (names : List ℕ) (position : ℕ) (b : LentBucket) (n : ℕ)
        → ((before after : List E) (answer : ℕ) → moves before after answer → (listed after ≡ listed before) × TakesBytesAt buckets position b n before after)
        → emp 𝓤 ⊢ ⟦ offer_owns (keeps names) moves (λ (_ : ℕ). next_bytes b n) None ⟧
    offered_bytes moves names position b n takes =
        let Goes : List E × List E × ℕ → Pr = λ t. ⟦ keeps names t.0 ⟧ -∗ upd 𝓤 (⟦ keeps names t.1 ⟧ ∗ ⟦ next_bytes b n ⟧) in
        all_i 𝓤 (λ (t : List E × List E × ℕ). all 𝓤 (λ (_ : moves t.0 t.1 t.2). Goes t)) (λ t. all_i 𝓤 (λ (_ : moves t.0 t.1 t.2). Goes t) (λ m.
        let moved = takes t.0 t.1 t.2 m in
        qed 𝓛 [] ∵ assume ! (‵ (keeps names t.0)) $ suffices ! _ (upd_i 𝓤 (⟦ keeps names t.1 ⟧ ∗ ⟦ next_bytes b n ⟧)) $ fsplit ! $
        rewrite ! 0 (λ (ts : List Text). ‵ (Lined names 0 ts)) (sym moved.0) refl $ move ! (1 ∷ []) $
        use1 𝓛 (‵ (next_bytes b n) ⊛ ‵ (all_untaken (changed_at position (more_taken n) (buckets t.0)))) (goes_out 𝓛 position (buckets t.0) b n moved.1.bucket moved.1.fits) $ split ! $ move ! (1 ∷ []) $
        rewrite ! 0 (λ (bs : List LentBucket). ‵ (all_untaken bs)) (sym moved.1.done) refl $ move ! (2 ∷ 0 ∷ []) $ fjoin ! $ done !))

    -- an update that adds a bucket hands in the right to its bytes that are not taken
    pub offered_bucket : (moves : List E → List E → ℕ → Type 0) (names : List ℕ) (b : LentBucket)
        → ((before after : List E) (answer : ℕ) → moves before after answer → (listed after ≡ listed before) × AddsBucket buckets b before after)
        → ⟦ untaken b ⟧ ⊢ ⟦ offer_owns (keeps names) moves (λ (_ : ℕ). ftrue) None ⟧
    offered_bucket moves names b adds =
        let Goes : List E × List E × ℕ → Pr = λ t. ⟦ keeps names t.0 ⟧ -∗ upd 𝓤 (⟦ keeps names t.1 ⟧ ∗ ⟦ ftrue ⟧) in
        all_i 𝓤 (λ (t : List E × List E × ℕ). all 𝓤 (λ (_ : moves t.0 t.1 t.2). Goes t)) (λ t. all_i 𝓤 (λ (_ : moves t.0 t.1 t.2). Goes t) (λ m.
        let moved = adds t.0 t.1 t.2 m in
        qed 𝓛 (‵ (untaken b) ∷ []) ∵ assume ! (‵ (keeps names t.0)) $ suffices ! _ (upd_i 𝓤 (⟦ keeps names t.1 ⟧ ∗ ⟦ ftrue ⟧)) $ fsplit ! $
        rewrite ! 0 (λ (ts : List Text). ‵ (Lined names 0 ts)) (sym moved.0) refl $ move ! (1 ∷ 2 ∷ []) $
        use2 𝓛 (‵ (all_untaken (buckets t.0 ++ b ∷ []))) (comes_in 𝓛 (buckets t.0) b) $
        rewrite ! 0 (λ (bs : List LentBucket). ‵ (all_untaken bs)) (sym moved.1) refl $ move ! (1 ∷ 0 ∷ []) $ fjoin ! $ frame ! $ nothing ! $ done !))

    module _ (cv : Coded E) (holds : List Cell → List E → Type 0) (shows : List E → List E) (bk : Book) (names : List ℕ) where
      abbrev rule : Rules E
      rule = rules holds shows keeps

      -- a log that was seen
      abbrev pub SeesLog : List E → Fml
      SeesLog = Sees 𝓛 cv rule bk names

      -- what is known of position n by one who has seen this log
      abbrev pub Known : List E → ℕ → Fml
      Known log n = Filled names n (slice_index_or (listed (shows log)) n [])

      -- whoever has seen a log finds the facts of a position below the length of its list
      pub finds : ListOnlyGrows shows listed → (seen : List E) (n : ℕ) → n < length (listed (shows seen))
          → ⟦ SeesLog seen ⟧ ⊢ H.⇛ (⟦ SeesLog seen ⟧ ∗ ⟦ Known seen n ⟧)
      finds grows seen n low = let Cells' : List Cell → Fml = Cells 𝓛 cv rule bk names in let X : At 𝓛 cv rule bk names → Pr = λ s. ⟦ Known seen n ⟧ in
          let here : 0 + n ≡ n = omega arith in
          let step : (s : At 𝓛 cv rule bk names) → holds s.0 s.1 → IsPrefix seen s.1 → ⟦ Cells' s.0 ⟧ ∗ ⟦ keeps names (shows s.1) ⟧ ∗ ⟦ ftrue ⟧ ⊢ ⟦ Cells' s.0 ⟧ ∗ ⟦ keeps names (shows s.1) ⟧ ∗ X s
          = λ s so begins. let all : List Text = listed (shows s.1) in let long : IsPrefix (listed (shows seen)) all = grows seen s.1 begins in
          let le : length (listed (shows seen)) ≤ length all = prefix_short (listed (shows seen)) all long in
          qed 𝓛 (‵ (Cells' s.0) ∷ ‵ (keeps names (shows s.1)) ∷ ‵ ftrue ∷ []) ∵ frame ! $ fsplit ! $
          use1 𝓛 (‵ (Lined names 0 all) ⊛ ‵ (Filled names (0 + n) (slice_index_or all n []))) (taken names 0 all n (omega arith)) $ split ! $ move ! (0 ∷ 2 ∷ []) $ fjoin ! $ frame ! $
          rewrite ! 0 (λ (k : ℕ). ‵ (Filled names k (slice_index_or all n []))) here refl $
          rewrite ! 0 (λ (t : Text). ‵ (Filled names n t)) (stands_still (listed (shows seen)) all n long low) refl $ move ! (1 ∷ []) $ drop ! $ done ! in
          qed 𝓛 (‵ (SeesLog seen) ∷ []) ∵ updating ! $ nothing ! $ move ! (1 ∷ 0 ∷ []) $
          use2 𝓛 (later (some (λ (s : At 𝓛 cv rule bk names). given (holds s.0 s.1 × IsPrefix seen s.1) (‵ (SeesLog seen) ⊛ ‵ (SeesLog s.1) ⊛ ‵ (Known seen n))))) (looks 𝓛 cv rule bk names seen ⟦ ftrue ⟧ X step) $
          await ! tt $ pick ! (λ s. learn ! (λ so. split ! $ now ! $ frame ! $ split ! $ drop ! $ done !))
