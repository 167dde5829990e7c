-- What interning a list of texts returns and leaves, and what is found for a list of texts or of keys.
use denote.Ref.{Bor}
use Rattle.std.specs.Prelude.{ℕ, ◌≡◌, ◌-◌, ◌<◌, List, ◌++◌, length, map, take, Option, Some, Err, IsSomeAnd, slice_get}
use Rattle.lasso_parts.specs.Texts.{Text, key_of}
use Rattle.lasso_parts.specs.declared.util.LassoError.{LassoError}
use Rattle.lasso_single.specs.Intern.{InternsIn}
use Rattle.lasso_single.specs.Interner.{InternerView}

-- those of the texts that were interned: the first ones, one for each added key
abbrev pub keyed_texts : {K : Type 0} → List K → List K → List Text → List Text
keyed_texts before after texts = take (length after - length before) texts

-- P holds of the text after those that have a key or a code: `before` are the keys that were there, and `after` those that are
abbrev pub NextIs : {K : Type 0} → (before after : List K) → List Text → (Text → Type 0) → Type 0
NextIs before after texts P = IsSomeAnd (slice_get texts (length after - length before)) P

-- the keys are those that the texts have in the list, one for each text
abbrev pub AreKeys : {K : Type 0} → (ℕ → Option K) → List Text → List Text → List K → Type 0
AreKeys key_at list texts keys = map (key_of key_at list) texts ≡ map Some keys

-- the keys of the texts were put after the earlier ones
abbrev pub AddsKeys : {K : Type 0} → (ℕ → Option K) → List Text → List Text → List K → List K → Type 0
AddsKeys {K} key_at list texts before after = (keys : List K) × (after ≡ before ++ keys) × AreKeys key_at list texts keys

-- the same of the first of these texts, one for each added key
abbrev pub AddsKeysOfFirst : {K : Type 0} → (ℕ → Option K) → List Text → List Text → List K → List K → Type 0
AddsKeysOfFirst key_at list texts before after = AddsKeys key_at list (keyed_texts before after texts) before after

-- the text after those that have keys was refused as a text alone is
abbrev pub IsNextRefused : {K : Type 0} → (ℕ → Option K) → InternerView → List K → List K → List Text → LassoError → Type 0
IsNextRefused {K} key_at now before after texts error =
    IsSomeAnd (slice_get texts (length after - length before)) (λ text. InternsIn {K = K} key_at now text (Err error) now)

-- the key of each text, or none if the text is absent, was put after the earlier ones
abbrev pub AddsFound : {K : Type 0} → (ℕ → Option K) → List Text → List Text → List (Option K) → List (Option K) → Type 0
AddsFound key_at list texts before after = after ≡ before ++ map (key_of key_at list) texts

-- each of the keys stands for a text of the list
abbrev pub HaveTexts : {K : Type 0} → (K → ℕ) → List Text → List K → Type 0
HaveTexts {K} number list keys = (i : ℕ) (key : K) → slice_get keys i ≡ Some key → number key < length list

-- the texts are those that the keys have in the list, one for each key
abbrev pub AreTexts : {K : Type 0} → (K → ℕ) → List Text → List K → List Text → Type 0
AreTexts number list keys texts = map (λ key. slice_get list (number key)) keys ≡ map Some texts

-- the texts of the keys were put after the earlier ones
abbrev pub AddsTexts : {K : Type 0} → (K → ℕ) → List Text → List K → List (Bor Text) → List (Bor Text) → Type 0
AddsTexts number list keys before after =
    (lent : List (Bor Text)) × (after ≡ before ++ lent) × AreTexts number list keys (map (λ text. text.now) lent)
