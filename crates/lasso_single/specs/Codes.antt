-- The codes of texts: their positions in a list. A column of texts is kept as the column of their codes.
-- Positions never change, so codes stay while the list grows.
use denote.Ref.{Bor}
use Rattle.std.specs.Prelude.{ℕ, ◌≡◌, ◌↔◌, List, ◌++◌, map, Some, slice_get}
use Rattle.lasso_parts.specs.Texts.{Text, position_of}

-- the codes are the positions of the texts in the list, one for each text
abbrev pub AreCodes : List Text → List Text → List ℕ → Type 0
AreCodes list texts codes = map (position_of list) texts ≡ map Some codes

-- the codes of the texts were appended to those that were there
abbrev pub AddsCodes : List Text → List Text → List ℕ → List ℕ → Type 0
AddsCodes list texts before after = (codes : List ℕ) × (after ≡ before ++ codes) × AreCodes list texts codes

-- the codes stand for the texts: each text is at its code's position
abbrev pub StandFor : List Text → List ℕ → List Text → Type 0
StandFor list codes texts = map (slice_get list) codes ≡ map Some texts

-- texts were appended to those that were there, and the codes stand for them
abbrev pub AddsTexts : List Text → List ℕ → List (Bor Text) → List (Bor Text) → Type 0
AddsTexts list codes before after =
    (lent : List (Bor Text)) × (after ≡ before ++ lent) × StandFor list codes (map (λ text. text.now) lent)

-- decoding what was encoded gives the texts, also if more texts were appended to the list since
abbrev pub DecodingGivesTexts : Type 0
DecodingGivesTexts =
    (list more texts decoded : List Text) (codes : List ℕ)
    → AreCodes list texts codes → StandFor (list ++ more) codes decoded ↔ (decoded ≡ texts)

-- codes of one list are equal exactly if their texts are
abbrev pub CodesTellTexts : Type 0
CodesTellTexts =
    (list texts : List Text) (codes : List ℕ) (i j code other : ℕ) (text that : Text)
    → AreCodes list texts codes
    → slice_get texts i ≡ Some text → slice_get codes i ≡ Some code
    → slice_get texts j ≡ Some that → slice_get codes j ≡ Some other → (code ≡ other) ↔ (text ≡ that)

-- codes of one list are rewritten by the codes that its texts have in another: they are the codes of the same texts there
abbrev pub RewritingKeepsTexts : Type 0
RewritingKeepsTexts =
    (from into texts : List Text) (codes merged rewritten : List ℕ)
    → AreCodes from texts codes → AreCodes into from merged
    → map (slice_get merged) codes ≡ map Some rewritten → AreCodes into texts rewritten
