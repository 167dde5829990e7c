-- The lines of bytes that are UTF-8 as a whole are UTF-8.
--
-- A line feed is ASCII, so UTF-8 can be cut before and after it. So the first line is UTF-8, and so are the
-- bytes after its line feed, which are fewer.
use Rattle.std.proofs.Common.{ℕ, zero, suc, ◌≡◌, ◌+◌, ◌<◌, ◌≤◌, ◌⊎◌, inl, inr, Bool, true, false, List, [], ◌∷◌, ◌++◌, length, take, drop, get_or, None, ap, sym, subst, ◌∙◌, refl, arith, append_assoc, length-append}
use Rattle.std.specs.Str.{IsUtf8}
use Rattle.std.proofs.lemmas.List.{drop_at, take_at}
use Rattle.std.proofs.lemmas.Str.{IsUtf8-take, IsUtf8-drop, IsCharBoundary-before_ascii, IsCharBoundary-after_ascii}
use Rattle.std.proofs.lemmas.Bool.Decides.{nat_tests}
use Rattle.lasso_input.specs.Lines.{is_line_feed, lines_of, NoFeed}
use Rattle.lasso_input.proofs.FirstLines.{lines_cut, lines_end}
use Rattle.lasso_lines.specs.LineFaults.{first_not_text}
use Rattle.lasso_lines.proofs.FirstFaults.{after_text}

-- a line that a line feed ends, and the bytes after it
abbrev HasFeed : List ℕ → Type 0
HasFeed bytes = (line : List ℕ) × (rest : List ℕ) × NoFeed line × (bytes ≡ line ++ 10 ∷ rest)

cut_by : (b : ℕ) (bytes : List ℕ) (is_feed : Bool) → is_line_feed b ≡ is_feed → NoFeed bytes ⊎ HasFeed bytes → NoFeed (b ∷ bytes) ⊎ HasFeed (b ∷ bytes)
cut_by b bytes true e later = let is : b ≡ 10 = grind (arith, nat_tests) in inr ([], bytes, tt, ap (λ x. x ∷ bytes) is)
cut_by b bytes false e (inl none) = inl (e, none)
cut_by b bytes false e (inr cut) = inr (b ∷ cut.0, cut.1, (e, cut.2), ap (λ bs. b ∷ bs) cut.3)

first_cut : (bytes : List ℕ) → NoFeed bytes ⊎ HasFeed bytes
first_cut [] = inl tt
first_cut (b ∷ bytes) = cut_by b bytes (is_line_feed b) refl (first_cut bytes)

feed_at : (line rest : List ℕ) → get_or (line ++ 10 ∷ rest) (length line) 0 ≡ 10
feed_at [] rest = refl
feed_at (b ∷ line) rest = feed_at line rest

module _ (line rest : List ℕ) (utf8 : IsUtf8 (line ++ 10 ∷ rest)) where
  inside : length line < length (line ++ 10 ∷ rest)
  inside = omega (arith, length-append line (10 ∷ rest))

  ascii : get_or (line ++ 10 ∷ rest) (length line) 0 < 128
  ascii = omega (arith, feed_at line rest)

  line_utf8 : IsUtf8 line
  line_utf8 = subst IsUtf8 (take_at line (10 ∷ rest) (length line) refl) (IsUtf8-take (line ++ 10 ∷ rest) (length line) utf8 (IsCharBoundary-before_ascii (line ++ 10 ∷ rest) (length line) inside ascii))

  rest_is : drop (length line + 1) (line ++ 10 ∷ rest) ≡ rest
  rest_is =
      ap (drop (length line + 1)) (sym (append_assoc line (10 ∷ []) rest))
      ∙ drop_at (line ++ 10 ∷ []) rest (length line + 1) (length-append line (10 ∷ []))

  rest_utf8 : IsUtf8 rest
  rest_utf8 = subst IsUtf8 rest_is (IsUtf8-drop (line ++ 10 ∷ rest) (length line + 1) utf8 (IsCharBoundary-after_ascii (line ++ 10 ∷ rest) (length line) utf8 inside ascii))

last_text : (bytes : List ℕ) (number : ℕ) → NoFeed bytes → IsUtf8 bytes → first_not_text number (lines_of bytes) ≡ None
last_text [] number none utf8 = refl
last_text (b ∷ bytes) number none utf8 = ap (first_not_text number) (lines_end b bytes none) ∙ after_text number (b ∷ bytes) [] utf8

texts_by : (most : ℕ) (bytes : List ℕ) (number : ℕ) → length bytes ≤ suc most → IsUtf8 bytes → ((rest : List ℕ) → length rest ≤ most → IsUtf8 rest → first_not_text (number + 1) (lines_of rest) ≡ None) → NoFeed bytes ⊎ HasFeed bytes → first_not_text number (lines_of bytes) ≡ None
texts_by most bytes number small utf8 later (inl none) = last_text bytes number none utf8
texts_by most bytes number small utf8 later (inr cut) =
    let whole : IsUtf8 (cut.0 ++ 10 ∷ cut.1) = subst IsUtf8 cut.3 utf8 in
    let few : length cut.1 ≤ most = omega (arith, small, ap length cut.3, length-append cut.0 (10 ∷ cut.1)) in
    ap (first_not_text number) (ap lines_of cut.3 ∙ lines_cut cut.0 cut.1 cut.2) ∙ after_text number cut.0 (lines_of cut.1) (line_utf8 cut.0 cut.1 whole) ∙ later cut.1 few (rest_utf8 cut.0 cut.1 whole)

texts_within : (most : ℕ) (bytes : List ℕ) (number : ℕ) → length bytes ≤ most → IsUtf8 bytes → first_not_text number (lines_of bytes) ≡ None
texts_within zero [] number small utf8 = refl
texts_within zero (b ∷ bytes) number small utf8 = absurd (omega arith)
texts_within (suc most) bytes number small utf8 = texts_by most bytes number small utf8 (λ rest few text. texts_within most rest (number + 1) few text) (first_cut bytes)

-- no line of UTF-8 is not UTF-8
pub whole_texts : (bytes : List ℕ) (number : ℕ) → IsUtf8 bytes → first_not_text number (lines_of bytes) ≡ None
whole_texts bytes number utf8 = texts_within (length bytes) bytes number (omega arith) utf8
