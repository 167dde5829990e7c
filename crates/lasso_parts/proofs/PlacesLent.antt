-- What a `&` to the places of a block lends.
--
-- It lends a `&` to the byte of each place that holds one. A `&[u8]` holds a `&` to each of its bytes, side
-- by side. So where each place of a run holds its byte, the places lend the slice of that run: the places
-- before the run are dropped, then the run's bytes are taken one by one, and the rest is dropped.
use Rattle.std.proofs.Common.{◌≡◌, ℕ, zero, suc, ◌+◌, ◌<◌, ◌≤◌, Bool, true, false, List, [], ◌∷◌, length, take, drop, get_or, refl, subst, arith}
use seplogic.Ra.Ura.{Ura}
use base.Fml.{Lft, Fml}
use base.Logic.{ent, snd∗, via}
use types.Logic.{Logic, sem}
use types.Kit.{‵, ◌$◌, ◌∵◌, !, qed, move, keep, drop as let_go, fsplit, fjoin, rewrite, use1, done}
use denote.Builtin.{u8}
use denote.RawPtr.{block_ptr}
use denote.Slice.{elements_shared}
use Rattle.core.specs.Mem.Slots.Ownership.{slot_lent, slots_lent}

module _ {M : Type 1} {𝓤 : Ura M} (𝓛 : Logic 𝓤) (κ : Lft) (b : ℕ) where
  -- what the places from the offset o on lend
  abbrev Lent : ℕ → List ℕ → List Bool → Fml
  Lent o xs fs = slots_lent u8 (block_ptr b o) xs fs κ

  -- what a slice of these bytes holds
  abbrev Seen : ℕ → List ℕ → Fml
  Seen o xs = elements_shared u8 xs b o κ

  -- the first n places
  first_run : (n o : ℕ) (xs : List ℕ) (fs : List Bool) → length fs ≡ length xs → n ≤ length xs → ((k : ℕ) → k < n → get_or fs k false ≡ true)
      → ent 𝓤 (sem 𝓛 (Lent o xs fs)) (sem 𝓛 (Seen o (take n xs)))
  first_run zero o xs fs same fits full = qed 𝓛 (‵ (Lent o xs fs) ∷ []) ∵ keep ! [] $ done !
  first_run (suc n) o [] fs same fits full = absurd (omega arith)
  first_run (suc n) o (x ∷ xs) [] same fits full = absurd (omega arith)
  first_run (suc n) o (x ∷ xs) (f ∷ fs) same fits full =
      qed 𝓛 (‵ (slot_lent u8 f (block_ptr b o) x κ) ∷ ‵ (Lent (o + 1) xs fs) ∷ []) ∵
      rewrite ! 0 (λ (g : Bool). ‵ (slot_lent u8 g (block_ptr b o) x κ)) (full 0 (omega arith)) refl $ fsplit ! $ let_go ! $ move ! (1 ∷ []) $
      use1 𝓛 (‵ (Seen (o + 1) (take n xs))) (first_run n (o + 1) xs fs (omega arith) (omega arith) (λ k h. full (suc k) (omega arith))) $ move ! (1 ∷ 0 ∷ []) $ fjoin ! $ done !

  -- the n places from the i-th on
  pub run_lent : (i n o at : ℕ) (xs : List ℕ) (fs : List Bool) → at ≡ i + o → length fs ≡ length xs → i + n ≤ length xs → ((k : ℕ) → i ≤ k → k < i + n → get_or fs k false ≡ true)
      → ent 𝓤 (sem 𝓛 (Lent o xs fs)) (sem 𝓛 (Seen at (take n (drop i xs))))
  run_lent zero n o at xs fs is same fits full =
      let here : o ≡ at = omega arith in
      subst (λ (k : ℕ). ent 𝓤 (sem 𝓛 (Lent o xs fs)) (sem 𝓛 (Seen k (take n xs)))) here (first_run n o xs fs same (omega arith) (λ k h. full k (omega arith) (omega arith)))
  run_lent (suc i) n o at [] fs is same fits full = absurd (omega arith)
  run_lent (suc i) n o at (x ∷ xs) [] is same fits full = absurd (omega arith)
  run_lent (suc i) n o at (x ∷ xs) (f ∷ fs) is same fits full =
      via 𝓤 (sem 𝓛 (Lent (o + 1) xs fs)) (snd∗ 𝓤 (sem 𝓛 (slot_lent u8 f (block_ptr b o) x κ)) (sem 𝓛 (Lent (o + 1) xs fs)))
      (run_lent i n (o + 1) at xs fs (omega arith) (omega arith) (omega arith) (λ k low high. full (suc k) (omega arith) (omega arith)))
