-- Distinct texts in the order of their bytes. As far as the contracts say, a worker's interner may hold other
-- texts than the lines. So a run marks the positions that its workers gave back: the texts there are named by
-- the codes.
use Rattle.std.specs.Prelude.{ℕ, ◌≡◌, ◌↔◌, ◌++◌, ◌∷◌, List, [], length, Contains, slice_get, Some}
use Rattle.std.specs.List.{AllAdjacentBelow}
use Rattle.std.specs.declared.cmp.Ordering.TheVariants.{Less}
use Rattle.lasso_parts.specs.Texts.{Text, IsDistinct}
use Rattle.lasso_lines.specs.Fronts.{text_cmp}
use Rattle.lasso_lines.specs.Stream.{Begins}

-- each text is less than the next one, in the order of their bytes; so none comes twice
abbrev pub IsAscending : List Text → Type 0
IsAscending texts = AllAdjacentBelow (λ text next. text_cmp text next ≡ Less) texts (length texts)

-- the texts, each followed by a line feed
abbrev pub told : List Text → List ℕ
told [] = []
told (text ∷ texts) = (text ++ 10 ∷ []) ++ told texts

-- the two lists have the same texts; how often each comes does not matter
abbrev pub AreSameTexts : List Text → List Text → Type 0
AreSameTexts texts others = (text : Text) → Contains texts text ↔ Contains others text

-- the part is the distinct lines in the order of their bytes, each followed by a line feed
abbrev pub WritesOrdered : List Text → List ℕ → Type 0
WritesOrdered lines part = (texts : List Text) × IsAscending texts × AreSameTexts texts lines × (part ≡ told texts)

-- the part is empty, or a beginning of the distinct lines in this order
abbrev pub BeginsOrdered : List Text → List ℕ → Type 0
BeginsOrdered lines part = ¬ (part ≡ []) → (whole : List ℕ) × WritesOrdered lines whole × Begins part whole

-- one of the codes is the text's position in the list
abbrev pub IsNamed : List Text → List ℕ → Text → Type 0
IsNamed list codes text = (code : ℕ) × Contains codes code × (slice_get list code ≡ Some text)

-- the texts are those at the codes' positions in the list, each once
pub record AreNamed (list : List Text) (codes : List ℕ) (texts : List Text) : Type 0 where
  pub distinct : IsDistinct texts
  pub each : (text : Text) → Contains texts text ↔ IsNamed list codes text

-- the part is the texts at the codes' positions, each once, in the order of their bytes, each followed by a
-- line feed
abbrev pub WritesNamed : List Text → List ℕ → List ℕ → Type 0
WritesNamed list codes part =
    (texts : List Text) × IsAscending texts × ((text : Text) → Contains texts text ↔ IsNamed list codes text) × (part ≡ told texts)

-- the part is a beginning of these texts in this order
abbrev pub BeginsNamed : List Text → List ℕ → List ℕ → Type 0
BeginsNamed list codes part = (whole : List ℕ) × WritesNamed list codes whole × Begins part whole
