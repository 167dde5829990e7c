-- The mask has a bit for each fingerprint of the group, which is set where the fingerprint is that of an empty slot or the
-- given one (`tells`). So its trailing zeros are the fingerprints that come before the first such one, and all
-- sixteen come before where no bit is set.
use Rattle.std.proofs.Common.{◌≡◌, ◌≢◌, ℕ, ◌+◌, ◌%◌, ◌^◌, ◌<◌, ◌≤◌, Bool, true, false, not, ◌||◌, cond, eqb, List, length, map, replicate, bit_or, refl, sym, ap, ◌∙◌, arith}
use Rattle.std.proofs.lemmas.Bool.{true≢false, eq-eqb}
use Rattle.std.proofs.lemmas.List.{length-map}
use Rattle.std.proofs.lemmas.Simd.{zip2_splat, zip2_of_maps, map-map, mask_l-mod, length-chunk, leading_from_mask_l, trailing_mask_l, run_in_chunk_le, run_in_chunk_fails}
use Rattle.std.specs.List.{prefix_len}
use lib.Count.{count_trailing_zeros}
use lib.Lanes.{chunk, zip2, mask_l, top}
use Rattle.lasso_parts.specs.Groups.{AreOthers}
use Rattle.lasso_parts.proofs.index.groups.others_in_group.Goals as goal

-- what the mask has of a fingerprint: whether it is 0 or the one given
abbrev tells : ℕ → ℕ → Bool
tells fingerprint x = top 7 (bit_or (cond (eqb x 0) 255 0) (cond (eqb x fingerprint) 255 0))

either : (p q : Bool) → top 7 (bit_or (cond p 255 0) (cond q 255 0)) ≡ p || q
either true true = refl
either true false = refl
either false true = refl
either false false = refl

or_right : (p : Bool) → p || true ≡ true
or_right true = refl
or_right false = refl

other : (fingerprint x : ℕ) → tells fingerprint x ≡ false → (x ≢ 0) × (x ≢ fingerprint)
other fingerprint x e =
    let none = sym (either (eqb x 0) (eqb x fingerprint)) ∙ e in (
      λ z. true≢false (sym (ap (λ b. b || eqb x fingerprint) (eq-eqb x 0 z)) ∙ none),
      λ z. true≢false (sym (ap (λ b. eqb x 0 || b) (eq-eqb x fingerprint z) ∙ or_right (eqb x 0)) ∙ none),
    )

module _ (fingerprints : List ℕ) (at fingerprint : ℕ) (room : at + 16 ≤ length fingerprints) where
  abbrev group : List ℕ
  group = chunk at 16 fingerprints

  long : length group ≡ 16
  long = length-chunk at 16 fingerprints room

  same : (y : ℕ) → zip2 {C = ℕ} (λ a b. cond (eqb a b) 255 0) group (replicate 16 y) ≡ map (λ x. cond (eqb x y) 255 0) group
  same y = zip2_splat {Z = ℕ} (λ a b. cond (eqb a b) 255 0) group 16 y long

  mask : mask_l (map (top 7) (zip2 bit_or (zip2 {C = ℕ} (λ a b. cond (eqb a b) 255 0) group (replicate 16 0)) (zip2 {C = ℕ} (λ a b. cond (eqb a b) 255 0) group (replicate 16 fingerprint)))) % 2 ^ 64 ≡ mask_l (map (tells fingerprint) group)
  mask =
      ap (λ l. mask_l (map (top 7) l) % 2 ^ 64) (zip2_of_maps bit_or _ _ group (same 0) (same fingerprint))
      ∙ ap (λ l. mask_l l % 2 ^ 64) (map-map (top 7) _ group)
      ∙ mask_l-mod (map (tells fingerprint) group) 64 (omega (arith, length-map group (tells fingerprint), long))

  abbrev IsRun : ℕ → Type 0
  IsRun r = r ≡ prefix_len (λ x. not (tells fingerprint x)) group

  whole : mask_l (map (tells fingerprint) group) ≡ 0 → IsRun 16
  whole none = sym (leading_from_mask_l (tells fingerprint) group none ∙ long)

  part : 0 < mask_l (map (tells fingerprint) group) → IsRun (count_trailing_zeros 64 (mask_l (map (tells fingerprint) group)))
  part some = trailing_mask_l (tells fingerprint) 64 group (omega (arith, long)) some

  others : (r : ℕ) → IsRun r → AreOthers fingerprints fingerprint at (at + r)
  others r run j from to = other fingerprint _ (run_in_chunk_fails (tells fingerprint) fingerprints at 16 r 0 room run j from to)

  most : (r : ℕ) → IsRun r → r ≤ 16
  most r run = run_in_chunk_le (tells fingerprint) fingerprints at 16 r 0 room run

pub returns-then-bits-eq0-clause-others : goal.returns-then-bits-eq0-clause-others
returns-then-bits-eq0-clause-others c =
    others c.args.fingerprints.now c.args.at c.args.fingerprint c.requires 16 (whole _ _ _ c.requires (sym (mask _ _ _ c.requires) ∙ c.if-bits-eq0.true))

pub returns-else-bits-eq0-clause-most : goal.returns-else-bits-eq0-clause-most
returns-else-bits-eq0-clause-most c =
    let bits = mask c.args.fingerprints.now c.args.at c.args.fingerprint c.requires in
    most c.args.fingerprints.now c.args.at c.args.fingerprint c.requires _ (ap (count_trailing_zeros 64) bits ∙ part _ _ _ c.requires (omega arith))

pub returns-else-bits-eq0-clause-others : goal.returns-else-bits-eq0-clause-others
returns-else-bits-eq0-clause-others c =
    let bits = mask c.args.fingerprints.now c.args.at c.args.fingerprint c.requires in
    others c.args.fingerprints.now c.args.at c.args.fingerprint c.requires _ (ap (count_trailing_zeros 64) bits ∙ part _ _ _ c.requires (omega arith))
