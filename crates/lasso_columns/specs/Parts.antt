-- Texts that are encoded in parts, each with a list of its own.
use Rattle.std.specs.Prelude.{◌≡◌, ℕ, List, [], ◌∷◌, ◌++◌, cond, is_some, map, Some, slice_get}
use Rattle.lasso_parts.specs.Texts.{Text, position_of}
use Rattle.lasso_single.specs.Codes.{AreCodes}

-- the texts that the list lacks, each once, in the order of their first occurrences
abbrev pub new_texts : List Text → List Text → List Text
new_texts list [] = []
new_texts list (text ∷ texts) = cond (is_some (position_of list text)) (new_texts list texts) (text ∷ new_texts (list ++ text ∷ []) texts)

-- the list has just the distinct texts, and these are the codes of all texts in it
abbrev pub IsEncoded : List Text → List Text → List ℕ → Type 0
IsEncoded texts list codes = (list ≡ new_texts [] texts) × AreCodes list texts codes

-- the codes were rewritten by the table and appended
abbrev pub AddsRewritten : List ℕ → List ℕ → List ℕ → List ℕ → Type 0
AddsRewritten table codes before after = (rewritten : List ℕ) × (after ≡ before ++ rewritten) × (map (slice_get table) codes ≡ map Some rewritten)
