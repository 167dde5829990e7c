-- The lines of an interner's texts.
use Rattle.std.specs.Prelude.{ℕ, ◌≡◌, ◌+◌, List, [], ◌∷◌, flat_map, if◌then◌else◌, length, map}
use Rattle.lasso_input.specs.Texts.{is_marked, line_of}
use Rattle.lasso_parts.specs.Texts.{Text}

-- what a table keeps of the line of a text: nothing if the text is its own line
abbrev pub kept_line : Text → List ℕ
kept_line text = if is_marked text then line_of text else []

-- where lists that follow each other begin, the first at `start`, and where the last one ends
abbrev pub bounds_of : ℕ → List (List ℕ) → List ℕ
bounds_of start [] = start ∷ []
bounds_of start (line ∷ lines) = start ∷ bounds_of (start + length line) lines

-- what is kept of the lines of the texts, one after another, and the bounds of that; or no bounds, if each text is
-- its own line
abbrev pub AreTableLines : List ℕ → List ℕ → List Text → Type 0
AreTableLines others [] texts = map line_of texts ≡ texts
AreTableLines others (bound ∷ bounds) texts = (others ≡ flat_map kept_line texts) × (bound ∷ bounds ≡ bounds_of 0 (map kept_line texts))
