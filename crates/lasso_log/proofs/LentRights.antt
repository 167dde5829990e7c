-- The rights to bytes that a book keeps, as resources: how the next bytes of a bucket go out, and how a new bucket's come in.
--
-- The right to a run of places is one right a place, side by side. So the right to all bytes that are not taken is cut in two with
-- nothing else at hand: the next bytes of the bucket, and what is kept of it from then on. Assumes `Logic`.
use Rattle.std.proofs.Common.{◌≡◌, ℕ, zero, suc, ◌+◌, ◌≤◌, List, [], ◌∷◌, ◌++◌, refl, sym, arith}
use Prim.Native.Nat.{◌-◌}
use Rattle.std.specs.Prelude.{slice_get, Some}
use seplogic.Ra.Ura.{Ura}
use base.Logic.{SProp, ent, sep}
use base.Fml.{Fml, ftrue}
use base.Shift.{Keyless}
use types.Logic.{Logic, sem}
use types.Kit.{‵, ◌⊛◌, ◌$◌, ◌∵◌, !, qed, by, move, drop, split, fsplit, fjoin, frame, rewrite, use1, done}
use denote.Steps.{nothing}
use Rattle.lasso_log.specs.Buckets.{changed_at}
use Rattle.lasso_log.specs.Eras.{free}
use Rattle.lasso_log.specs.LentBuckets.{LentBucket, more_taken, next_bytes, untaken, all_untaken}
use Rattle.lasso_log.proofs.LentBytes.{splits}

free_keyless : (era b e n : ℕ) → Keyless (free era b e n)
free_keyless era b e zero = tt
free_keyless era b e (suc n) = (tt, free_keyless era b (e + 1) n)

-- what is kept names no token of one thread
pub untaken_keyless : (bs : List LentBucket) → Keyless (all_untaken bs)
untaken_keyless [] = tt
untaken_keyless (b ∷ bs) = (free_keyless b.site.era b.site.block (b.site.start + b.used) (b.size - b.used), untaken_keyless bs)

module _ {M : Type 1} {𝓤 : Ura M} (𝓛 : Logic 𝓤) where
  abbrev Pr : Type 2
  Pr = SProp 𝓤

  abbrev ◌⊢◌ : Pr → Pr → Type 1
  P ⊢ Q = ent 𝓤 P Q

  abbrev ◌∗◌ : Pr → Pr → Pr
  P ∗ Q = sep 𝓤 P Q

  abbrev ⟦◌⟧ : Fml → Pr
  ⟦ P ⟧ = sem 𝓛 P

  infix 26 ◌⊢◌
  infixr 35 ◌∗◌
  -- the right to a bucket's bytes, cut after the next n
  cut : (b : LentBucket) (n : ℕ) → b.used + n ≤ b.size → ⟦ untaken b ⟧ ⊢ ⟦ next_bytes b n ⟧ ∗ ⟦ untaken (more_taken n b) ⟧
  cut b n fits =
      let E = b.site.era in let block = b.site.block in let from : ℕ = b.site.start + b.used in let left : ℕ = b.size - (b.used + n) in
      let both : b.size - b.used ≡ n + left = omega (arith, fits) in
      let behind : from + n ≡ b.site.start + (b.used + n) = omega arith in
      qed 𝓛 (‵ (free E block from (b.size - b.used)) ∷ []) ∵ rewrite ! 0 (λ (k : ℕ). ‵ (free E block from k)) both refl $
      use1 𝓛 (‵ (free E block from n) ⊛ ‵ (free E block (from + n) left)) (splits 𝓛 E block n left from) $ split ! $ frame ! $
      rewrite ! 0 (λ (k : ℕ). ‵ (free E block k left)) behind refl $ done !

  -- the next bytes of the bucket at this position go out
  pub goes_out : (position : ℕ) (bs : List LentBucket) (b : LentBucket) (n : ℕ) → slice_get bs position ≡ Some b → b.used + n ≤ b.size
      → ⟦ all_untaken bs ⟧ ⊢ ⟦ next_bytes b n ⟧ ∗ ⟦ all_untaken (changed_at position (more_taken n) bs) ⟧
  goes_out position [] b n at fits = absurd (cc at)
  goes_out zero (c ∷ bs) b n at fits = let same : c ≡ b = cc at in
      qed 𝓛 (‵ (all_untaken (c ∷ bs)) ∷ []) ∵ rewrite ! 0 (λ (d : LentBucket). ‵ (all_untaken (d ∷ bs))) same refl $ fsplit ! $
      use1 𝓛 (‵ (next_bytes b n) ⊛ ‵ (untaken (more_taken n b))) (cut b n fits) $ split ! $ frame ! $ fjoin ! $
      rewrite ! 0 (λ (d : LentBucket). ‵ (all_untaken (more_taken n d ∷ bs))) (sym same) refl $ done !
  goes_out (suc position) (c ∷ bs) b n at fits =
      qed 𝓛 (‵ (all_untaken (c ∷ bs)) ∷ []) ∵ fsplit ! $ move ! (1 ∷ []) $
      use1 𝓛 (‵ (next_bytes b n) ⊛ ‵ (all_untaken (changed_at position (more_taken n) bs))) (goes_out position bs b n at fits) $ split ! $ frame ! $ move ! (1 ∷ 0 ∷ []) $ fjoin ! $ done !

  -- the right to a new bucket's bytes comes in, at the end
  pub comes_in : (bs : List LentBucket) (b : LentBucket) → ⟦ all_untaken bs ⟧ ∗ ⟦ untaken b ⟧ ⊢ ⟦ all_untaken (bs ++ b ∷ []) ⟧
  comes_in [] b = qed 𝓛 (‵ ftrue ∷ ‵ (untaken b) ∷ []) ∵ drop ! $ nothing ! $ move ! (1 ∷ 0 ∷ []) $ fjoin ! $ done !
  comes_in (c ∷ bs) b = qed 𝓛 (‵ (all_untaken (c ∷ bs)) ∷ ‵ (untaken b) ∷ []) ∵ fsplit ! $ frame ! $ by ! (comes_in bs b)
