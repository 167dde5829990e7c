-- Layouts: what a good text is, and where the texts of a good layout lie.
--
-- The faults are asked for from the first offset on, and the texts are cut off in the same order. So what is
-- known of a text after the first ones is found by stepping over these.
use Rattle.std.proofs.Common.{ℕ, zero, suc, ◌≡◌, ◌+◌, ◌<◌, ◌≤◌, true, false, List, [], ◌∷◌, length, get_or, slice_get, Option, Some, None, refl, ap, ◌∙◌, ◌-◌, add-one, arith}
use Rattle.std.specs.List.{slice_range}
use Rattle.std.specs.Option.{option_or}
use Rattle.std.specs.Str.{IsUtf8, is_utf8}
use Rattle.std.proofs.lemmas.Str.{IsUtf8-from_is_utf8}
use Rattle.std.proofs.lemmas.Bool.Decides.{nat_tests}
use Rattle.std.proofs.lemmas.Option.{slice_get_past}
use Rattle.lasso_parts.specs.Texts.{Text}
use Rattle.lasso_parts.specs.Layout.{reach, texts_from, layout_texts}
use Rattle.lasso_c.specs.Layout.{start_fault, text_fault, texts_fault, layout_fault}
use Rattle.lasso_c.specs.declared.error.CallError.{CallError}
use Rattle.lasso_c.specs.declared.error.CallError.TheVariants.{NotUtf8}

pub or_none : (one other : Option CallError) → option_or one other ≡ None → (one ≡ None) × (other ≡ None)
or_none None other e = (refl, e)
or_none (Some refusal) other e = let no : Some refusal ≡ None = e in absurd cc

length-texts_from : (bytes : List ℕ) (from : ℕ) (offsets : List ℕ) → length (texts_from bytes from offsets) ≡ length offsets
length-texts_from bytes from [] = refl
length-texts_from bytes from (to ∷ offsets) = ap suc (length-texts_from bytes to offsets)

-- there are as many texts as there are offsets but one
pub length-layout_texts : (bytes offsets : List ℕ) → length (layout_texts bytes offsets) ≡ length offsets - 1
length-layout_texts bytes [] = refl
length-layout_texts bytes (from ∷ offsets) = omega (arith, length-texts_from bytes from offsets)

-- no text is there past the last offset
pub lacks : (bytes offsets : List ℕ) (k : ℕ) → length offsets ≤ k + 1 → slice_get (layout_texts bytes offsets) k ≡ None
lacks bytes offsets k far = slice_get_past (layout_texts bytes offsets) k (omega (arith, length-layout_texts bytes offsets))

module _ (greatest : ℕ) where
  -- nothing is wrong with a text between two rising offsets that reach no further than the bytes
  pub good_text : (bytes : List ℕ) (at from to : ℕ) → from ≤ to → to ≤ reach greatest bytes → is_utf8 (slice_range bytes from to) ≡ true → text_fault greatest bytes at from to ≡ None
  good_text bytes at from to rises within utf8 = grind (arith, nat_tests)

  pub not_text : (bytes : List ℕ) (at from to : ℕ) → from ≤ to → to ≤ reach greatest bytes → is_utf8 (slice_range bytes from to) ≡ false → text_fault greatest bytes at from to ≡ Some (NotUtf8 at)
  not_text bytes at from to rises within not_utf8 = grind (arith, nat_tests)

  -- the offsets round a text with which nothing is wrong, and that it is a text
  pub text_known : (bytes : List ℕ) (at from to : ℕ) → text_fault greatest bytes at from to ≡ None → (from ≤ to) × (to ≤ reach greatest bytes) × IsUtf8 (slice_range bytes from to)
  text_known bytes at from to good =
      let is : is_utf8 (slice_range bytes from to) ≡ true = grind (arith, nat_tests) in
      (grind (arith, nat_tests), grind (arith, nat_tests), IsUtf8-from_is_utf8 (slice_range bytes from to) is)

  -- where a text lies, and that it is there
  pub record LiesBetween (bytes : List ℕ) (from to : ℕ) (text : Option Text) : Type 0 where
    pub rises : from ≤ to
    pub within : to ≤ reach greatest bytes
    pub is : text ≡ Some (slice_range bytes from to)

  lies_from : (bytes : List ℕ) (at from : ℕ) (offsets : List ℕ) (k : ℕ) → texts_fault greatest bytes at from offsets ≡ None → k < length offsets → LiesBetween bytes (get_or (from ∷ offsets) k 0) (get_or offsets k 0) (slice_get (texts_from bytes from offsets) k)
  lies_from bytes at from [] k good small = absurd (omega arith)
  lies_from bytes at from (to ∷ offsets) zero good small =
      let both = or_none (text_fault greatest bytes at from to) (texts_fault greatest bytes (at + 1) to offsets) good in
      let known = text_known bytes at from to both.0 in
      record { rises = known.0; within = known.1; is = refl }
  lies_from bytes at from (to ∷ offsets) (suc k) good small =
      let both = or_none (text_fault greatest bytes at from to) (texts_fault greatest bytes (at + 1) to offsets) good in
      lies_from bytes (at + 1) to offsets k both.1 (omega arith)

  -- a text of a good layout lies between its two offsets
  pub lies : (bytes offsets : List ℕ) (k : ℕ) → layout_fault greatest bytes offsets ≡ None → k + 1 < length offsets → LiesBetween bytes (get_or offsets k 0) (get_or offsets (k + 1) 0) (slice_get (layout_texts bytes offsets) k)
  lies bytes [] k good small = absurd (omega arith)
  lies bytes (from ∷ offsets) k good small =
      let both = or_none (start_fault greatest bytes from) (texts_fault greatest bytes 0 from offsets) good in
      rw add-one (lies_from bytes 0 from offsets k both.1 (omega arith))

  good_from : (bytes : List ℕ) (first from : ℕ) (offsets : List ℕ) (k at : ℕ) → at ≡ first + k → texts_fault greatest bytes first from offsets ≡ None → k < length offsets → text_fault greatest bytes at (get_or (from ∷ offsets) k 0) (get_or offsets k 0) ≡ None
  good_from bytes first from [] k at same good small = absurd (omega arith)
  good_from bytes first from (to ∷ offsets) zero at same good small =
      let both = or_none (text_fault greatest bytes first from to) (texts_fault greatest bytes (first + 1) to offsets) good in
      let here : at ≡ first = omega arith in
      ap (λ n. text_fault greatest bytes n from to) here ∙ both.0
  good_from bytes first from (to ∷ offsets) (suc k) at same good small =
      let both = or_none (text_fault greatest bytes first from to) (texts_fault greatest bytes (first + 1) to offsets) good in
      good_from bytes (first + 1) to offsets k at (omega arith) both.1 (omega arith)

  -- nothing is wrong with a text of a good layout
  pub good_at : (bytes offsets : List ℕ) (at : ℕ) → layout_fault greatest bytes offsets ≡ None → at + 1 < length offsets → text_fault greatest bytes at (get_or offsets at 0) (get_or offsets (at + 1) 0) ≡ None
  good_at bytes [] at good small = absurd (omega arith)
  good_at bytes (from ∷ offsets) at good small =
      let both = or_none (start_fault greatest bytes from) (texts_fault greatest bytes 0 from offsets) good in
      rw add-one (good_from bytes 0 from offsets at at (omega arith) both.1 (omega arith))
