-- Counts of texts, one for each text of a list of distinct texts.
use denote.Ref.{Bor}
use Rattle.std.specs.Prelude.{ℕ, ◌≡◌, ◌+◌, List, [], ◌∷◌, ◌++◌, length, map, sum, count_by, nat_lt, Option, Some, None, slice_index, slice_set, if◌then◌else◌, IsPermutation}
use Rattle.std.specs.Ordering.{nat_cmp, ordering_then}
use Rattle.std.specs.Str.{bytes_eq}
use Rattle.std.specs.Cmp.Lexicographic.{slice_cmp}
use Rattle.std.specs.declared.cmp.Ordering.{Ordering}
use Rattle.std.specs.declared.cmp.Reverse.{Reverse}
use Rattle.lasso_parts.specs.Texts.{Text, position_of}
use Rattle.lasso_columns.specs.Parts.{new_texts}

-- the number of times that the text is among `texts`
abbrev pub count_of : List Text → Text → ℕ
count_of texts text = count_by (λ t. bytes_eq t text) texts

-- the count at a position, and 0 if there is none
abbrev pub count_at : List ℕ → Option ℕ → ℕ
count_at counts None = 0
count_at counts (Some n) = slice_index counts n

-- the list has each of the texts once, in the order of first occurrences. The count of each text is the
-- number of times that it occurs, and the counts add up to the number of texts
pub record AreCounts (texts list : List Text) (counts : List ℕ) : Type 0 where
  pub list_is : list ≡ new_texts [] texts
  pub each : (text : Text) → count_of texts text ≡ count_at counts (position_of list text)
  pub lengths : length counts ≡ length list
  pub total : sum counts ≡ length texts

-- what were the counts of any texts are those of these texts and this one
abbrev pub CountsOneMore : Text → (list : List Text) → (counts : List ℕ) → (list' : List Text) → (counts' : List ℕ) → Type 0
CountsOneMore text list counts list' counts' = (texts : List Text) → AreCounts texts list counts → AreCounts (texts ++ text ∷ []) list' counts'

-- each distinct text once, with its count
abbrev pub counted_texts : List Text → List (ℕ × Text)
counted_texts texts = map (λ text. (count_of texts text, text)) (new_texts [] texts)

-- the pairs are the distinct texts with their counts, in some order, if these are counts of texts at all
abbrev pub AreCountedTexts : (list : List Text) → (counts : List ℕ) → List (ℕ × Text) → Type 0
AreCountedTexts list counts pairs = (texts : List Text) → AreCounts texts list counts → IsPermutation (counted_texts texts) pairs

-- the counts with one more at a position, or with a count of 1 after the others
abbrev pub added : List ℕ → ℕ → List ℕ
added counts n = if nat_lt n (length counts) then slice_set counts n (slice_index counts n + 1) else counts ++ 1 ∷ []

-- the counts with one more for the text at this position of the list, or for a new text
abbrev pub counted : List ℕ → Option ℕ → List ℕ
counted counts None = counts ++ 1 ∷ []
counted counts (Some n) = slice_set counts n (slice_index counts n + 1)

-- the counts with one more at a position, or as they are if it has none
abbrev pub raised : List ℕ → ℕ → List ℕ
raised counts n = if nat_lt n (length counts) then slice_set counts n (slice_index counts n + 1) else counts

-- the counts with one more for each of these positions; one that has no count is passed over
abbrev pub raised_by : List ℕ → List ℕ → List ℕ
raised_by counts [] = counts
raised_by counts (n ∷ ns) = raised_by (raised counts n) ns

-- a ranked text in contracts: its count and its bytes
abbrev pub pair_of : Reverse ℕ × Bor Text → ℕ × Text
pair_of ranked = (ranked.0.0, ranked.1.now)

-- the order of texts by their counts: the greater count first, and equal counts by the texts' bytes
abbrev pub ranked_cmp : ℕ × Text → ℕ × Text → Ordering
ranked_cmp one other = ordering_then (nat_cmp other.0 one.0) (slice_cmp nat_cmp one.1 other.1)
