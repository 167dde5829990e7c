-- The counts of lines, by the counts of their texts.
--
-- A line comes as often as its text. So the counts of the texts are those of the distinct lines, and the pairs that
-- are ranked are the distinct lines with their counts.
use Rattle.std.proofs.Common.{ℕ, suc, ◌≡◌, ◌+◌, Bool, cond, List, [], ◌∷◌, length, map, refl, sym, ap, subst, ◌∙◌, arith}
use Rattle.std.specs.Prelude.{All, IsPermutation, bytes_eq, zip}
use Rattle.std.proofs.lemmas.List.{length-map}
use Rattle.std.proofs.lemmas.List.Elements.{All-head, All-tail}
use Rattle.std.proofs.lemmas.List.Sums.{sum_by-cons}
use Rattle.hex.specs.Hex.{IsBytes}
use Rattle.lasso_parts.specs.Texts.{Text}
use Rattle.lasso_columns.specs.Parts.{new_texts}
use Rattle.lasso_columns.specs.Counts.{AreCounts, count_of}
use Rattle.lasso_columns.proofs.Ranks.{counted_pairs}
use Rattle.lasso_input.specs.Texts.{line_of, text_of}
use Rattle.lasso_codes.specs.Counts.{counted_lines}
use Rattle.lasso_codes.specs.Limits.{line_texts}
use Rattle.lasso_codes.proofs.LineTexts.{distinct_are_bytes, first_texts_of, same_texts, table_back}

-- a line comes as often as its text
count_of_text : (lines : List Text) (line : Text) → All IsBytes lines → IsBytes line → count_of (line_texts lines) (text_of line) ≡ count_of lines line
count_of_text [] line all bytes = refl
count_of_text (l ∷ lines) line all bytes =
    sum_by-cons (λ t. cond (bytes_eq t (text_of line)) 1 0) (text_of l) (line_texts lines)
    ∙ ap (λ b. cond b 1 0 + count_of (line_texts lines) (text_of line)) (same_texts l line (All-head IsBytes l lines all) bytes)
    ∙ ap (λ n. cond (bytes_eq l line) 1 0 + n) (count_of_text lines line (All-tail IsBytes l lines all) bytes)
    ∙ sym (sum_by-cons (λ t. cond (bytes_eq t line) 1 0) l lines)

abbrev first_count : List (ℕ × Text) → ℕ
first_count [] = 0
first_count (p ∷ ps) = p.0

abbrev other_pairs : List (ℕ × Text) → List (ℕ × Text)
other_pairs [] = []
other_pairs (p ∷ ps) = ps

pairs_of_lines : (lines : List Text) (counts : List ℕ) (list : List Text) → All IsBytes lines → All IsBytes list → length counts ≡ length list → zip counts (line_texts list) ≡ map (λ t. (count_of (line_texts lines) t, t)) (line_texts list) → zip counts list ≡ map (λ l. (count_of lines l, l)) list
pairs_of_lines lines [] [] all all' lengths pairs = refl
pairs_of_lines lines [] (l ∷ list) all all' lengths pairs = absurd (omega (arith, lengths))
pairs_of_lines lines (n ∷ counts) [] all all' lengths pairs = absurd (omega (arith, lengths))
pairs_of_lines lines (n ∷ counts) (l ∷ list) all all' lengths pairs =
    let here : n ≡ count_of (line_texts lines) (text_of l) = ap first_count pairs in
    let others : zip counts (line_texts list) ≡ map (λ t. (count_of (line_texts lines) t, t)) (line_texts list) = ap other_pairs pairs in
    let count : n ≡ count_of lines l = here ∙ count_of_text lines l all (All-head IsBytes l list all') in
    ap (λ (m : ℕ). (m, l) ∷ zip counts list) count
    ∙ ap (λ (ps : List (ℕ × Text)). (count_of lines l, l) ∷ ps) (pairs_of_lines lines counts list all (All-tail IsBytes l list all') (omega (arith, lengths)) others)

-- the ranked lines are the distinct lines with their counts
pub counted_order : (lines table texts : List Text) (counts : List ℕ) (ranked : List (ℕ × Text)) → All IsBytes lines → table ≡ map line_of texts → AreCounts (line_texts lines) texts counts → IsPermutation (zip counts table) ranked → IsPermutation (counted_lines lines) ranked
counted_order lines table texts counts ranked all table_is are order =
    let list = new_texts [] lines in
    let texts_are : texts ≡ line_texts list = are.list_is ∙ first_texts_of lines all in
    let lines_are : table ≡ list = table_back table texts list table_is texts_are (distinct_are_bytes lines all) in
    let lengths : length counts ≡ length list = are.lengths ∙ ap length texts_are ∙ length-map list text_of in
    let counted : zip counts texts ≡ map (λ t. (count_of (line_texts lines) t, t)) texts = counted_pairs (line_texts lines) texts counts are ∙ ap (λ (ts : List Text). map (λ t. (count_of (line_texts lines) t, t)) ts) (sym are.list_is) in
    let pairs = subst (λ (ts : List Text). zip counts ts ≡ map (λ t. (count_of (line_texts lines) t, t)) ts) texts_are counted in
    subst (λ ps. IsPermutation ps ranked) (ap (λ (ts : List Text). zip counts ts) lines_are ∙ pairs_of_lines lines counts list all (distinct_are_bytes lines all) lengths pairs) order
