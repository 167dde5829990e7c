-- What looking up the texts of a list says of each text's key.
use Rattle.std.specs.Prelude.{◌≡◌, ℕ, List, [], ◌∷◌, ◌++◌, Option, Some, IfSome}
use Rattle.lasso_parts.specs.Texts.{Text, key_of}

-- a key that was found is the text's in the last list, and a text with a key in the first list was found
abbrev pub IsFoundBetween : {K : Type 0} → (ℕ → Option K) → (first last : List Text) → Text → Option K → Type 0
IsFoundBetween {K} key_at first last text found =
    IfSome found (λ key. key_of key_at last text ≡ Some key) × ((key : K) → key_of key_at first text ≡ Some key → found ≡ Some key)

-- so it is with each of the texts
abbrev pub AreFoundBetween : {K : Type 0} → (ℕ → Option K) → (first last : List Text) → List Text → List (Option K) → Type 0
AreFoundBetween key_at first last [] [] = Unit {0}
AreFoundBetween key_at first last (text ∷ texts) (found ∷ others) = IsFoundBetween key_at first last text found × AreFoundBetween key_at first last texts others
AreFoundBetween key_at first last texts found = ⊥

-- and what was found was put after what was there before
abbrev pub AddsFoundBetween : {K : Type 0} → (ℕ → Option K) → (first last : List Text) → List Text → List (Option K) → List (Option K) → Type 0
AddsFoundBetween {K} key_at first last texts old new = (found : List (Option K)) × (new ≡ old ++ found) × AreFoundBetween key_at first last texts found
