-- A worker's way through the lines.
--
-- It cuts one line after another, and interns the one whose turn it is: the first line that it has, and then
-- each time as many lines on as there are workers. So it counts the lines that come before its next one. When
-- no line is left, the codes are those of all its lines.
use Rattle.std.proofs.Common.{ℕ, zero, suc, ◌≡◌, ◌+◌, ◌-◌, ◌*◌, ◌<◌, ◌≤◌, ◌⊎◌, inl, inr, List, [], ◌∷◌, ◌++◌, length, drop, None, refl, sym, ap, subst, ◌∙◌, arith, length-drop}
use Rattle.std.specs.Str.{IsUtf8}
use Rattle.std.proofs.lemmas.Bool.{cases_lt}
use Rattle.lasso_parts.specs.Texts.{Text}
use Rattle.lasso_single.specs.Codes.{AreCodes}
use Rattle.lasso_lines.specs.LineFaults.{first_not_text, AreTexts}
use Rattle.lasso_lines.specs.Shares.{AddsCode, HasCodes, line_at, share}
use Rattle.lasso_lines.proofs.FirstFaults.{first_utf8}
use Rattle.lasso_lines.proofs.ShareLines.{share_next}

-- the first of the lines that are left
pub left_first : (lines : List Text) (at : ℕ) (line : Text) (more : List Text) → drop at lines ≡ line ∷ more → (at < length lines) × (line_at lines at ≡ line) × (drop (at + 1) lines ≡ more)
left_first [] zero line more is = absurd cc
left_first [] (suc at) line more is = absurd cc
left_first (x ∷ lines) zero line more is = (omega arith, cc, cc)
left_first (x ∷ lines) (suc at) line more is =
    let later = left_first lines at line more is in
    let same : suc at + 1 ≡ suc (at + 1) = omega arith in
    (omega (arith, later.0), later.1, ap (λ n. drop n (x ∷ lines)) same ∙ later.2)

-- no line is left
left_none : (lines : List Text) (at : ℕ) → drop at lines ≡ [] → length lines ≤ at
left_none lines at is = omega (arith, length-drop at lines, ap length is)

-- one more line is inside
inside_more : (long worker workers count : ℕ) → ((n : ℕ) → n < count → worker + n * workers < long) → worker + count * workers < long + 1 → (n : ℕ) → n < count + 1 → ((n < count) ⊎ (count ≤ n)) → worker + n * workers < long + 1
inside_more long worker workers count inside last n small (inl before) = omega (arith, inside n before)
inside_more long worker workers count inside last n small (inr after) = let is : n ≡ count = omega arith in subst (λ k. worker + k * workers < long + 1) (sym is) last

-- the lines from number `next` on are left, counted from 1. They are UTF-8, `others` of them come before the
-- worker's next one, and its lines before them have these codes in the list
pub record Worked (list lines rest : List Text) (worker workers next others : ℕ) (codes : List ℕ) : Type 0 where
  pub at : ℕ
  pub counted : next ≡ at + 1
  pub left : drop at lines ≡ rest
  pub low : at ≤ length lines
  pub texts : first_not_text next rest ≡ None
  pub due : at + others ≡ worker + length codes * workers
  pub inside : (n : ℕ) → n < length codes → worker + n * workers < at
  pub coded : AreCodes list (share lines worker workers (length codes)) codes

pub worked_none : (list lines : List Text) (worker workers : ℕ) → AreTexts lines → Worked list lines lines worker workers 1 worker []
worked_none list lines worker workers texts = record {
  at = 0;
  counted = refl;
  left = refl;
  low = omega arith;
  texts = texts;
  due = omega arith;
  inside = λ n small. absurd (omega arith);
  coded = refl;
}

module _ (list lines more : List Text) (line : Text) (worker workers next others : ℕ) (codes : List ℕ) (now : Worked list lines (line ∷ more) worker workers next others codes) where
  first : (now.at < length lines) × (line_at lines now.at ≡ line) × (drop (now.at + 1) lines ≡ more)
  first = left_first lines now.at line more now.left

  -- the next line is UTF-8
  pub next_utf8 : IsUtf8 line
  next_utf8 = (first_utf8 next line more now.texts).0

  later_texts : first_not_text (next + 1) more ≡ None
  later_texts = (first_utf8 next line more now.texts).1

  -- it is another worker's
  pub worked_past : (next' others' : ℕ) → 0 < others → next' ≡ next + 1 → others' ≡ others - 1 → Worked list lines more worker workers next' others' codes
  worked_past next' others' some up down = record {
    at = now.at + 1;
    counted = omega (arith, up, now.counted);
    left = first.2;
    low = omega (arith, first.0);
    texts = subst (λ n. first_not_text n more ≡ None) (sym up) later_texts;
    due = omega (arith, now.due, some, down);
    inside = λ n small. omega (arith, now.inside n small);
    coded = now.coded;
  }

  -- it is the worker's
  module _ (turn : others ≡ 0) where
    at_turn : now.at ≡ worker + length codes * workers
    at_turn = omega (arith, now.due, turn)

    pub turn_inside : worker + length codes * workers < length lines
    turn_inside = omega (arith, first.0, at_turn)

    pub turn_number : next ≡ worker + length codes * workers + 1
    turn_number = omega (arith, now.counted, at_turn)

    pub turn_line : line_at lines (worker + length codes * workers) ≡ line
    turn_line = ap (line_at lines) (sym at_turn) ∙ first.1

    pub worked_more : (list' : List Text) (next' others' : ℕ) (codes' : List ℕ) → 0 < workers → next' ≡ next + 1 → others' ≡ workers - 1 → length codes' ≡ length codes + 1 → AddsCode list codes list' codes' line → Worked list' lines more worker workers next' others' codes'
    worked_more list' next' others' codes' some up down one adds =
        let times : length codes' * workers ≡ length codes * workers + workers = ap (λ n. n * workers) one ∙ (omega arith) in
        let same : share lines worker workers (length codes) ++ line ∷ [] ≡ share lines worker workers (length codes + 1) = share_next lines worker workers (length codes) now.at line at_turn first.1 in
        record {
          at = now.at + 1;
          counted = omega (arith, up, now.counted);
          left = first.2;
          low = omega (arith, first.0);
          texts = subst (λ n. first_not_text n more ≡ None) (sym up) later_texts;
          due = omega (arith, at_turn, times, some, down);
          inside = λ n small. inside_more now.at worker workers (length codes) now.inside (omega (arith, at_turn)) n (omega (arith, one, small)) (cases_lt n (length codes));
          coded =
              subst (λ k. AreCodes list' (share lines worker workers k) codes') (sym one)
              (subst (λ (ts : List Text). AreCodes list' ts codes') same (adds (share lines worker workers (length codes)) now.coded));
        }

-- no line is left
pub worked_all : (list lines : List Text) (worker workers next others : ℕ) (codes : List ℕ) → Worked list lines [] worker workers next others codes → HasCodes list lines worker workers codes
worked_all list lines worker workers next others codes now = (
  length codes,
  record { inside = λ n small. omega (arith, now.inside n small, now.low); whole = omega (arith, left_none lines now.at now.left, now.due) },
  now.coded,
)

-- other workers' lines are passed over
pub worked_skip : (list lines skipped more : List Text) (worker workers next others : ℕ) (codes : List ℕ) → Worked list lines (skipped ++ more) worker workers next others codes → (next' others' : ℕ) → next' ≡ next + length skipped → others' + length skipped ≡ others → Worked list lines more worker workers next' others' codes
worked_skip list lines [] more worker workers next others codes now next' others' up down =
    let same : next ≡ next' = omega (arith, up) in
    let still : others ≡ others' = omega (arith, down) in
    subst (λ n. Worked list lines more worker workers n others' codes) same (subst (λ o. Worked list lines more worker workers next o codes) still now)
worked_skip list lines (line ∷ skipped) more worker workers next others codes now next' others' up down =
    worked_skip list lines skipped more worker workers (next + 1) (others - 1) codes
    (worked_past list lines (skipped ++ more) line worker workers next others codes now (next + 1) (others - 1) (omega (arith, down)) refl refl)
    next' others' (omega (arith, up)) (omega (arith, down))
