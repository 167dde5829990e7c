-- The lines of the workers together.
--
-- Each of a worker's lines is one of the lines. The line at position i belongs to worker i modulo the
-- number of workers, and is there at position i divided by it. So the shares of all workers have all lines.
-- The list that a pass sees only grows, so the codes that the workers returned are codes in one list.
use Rattle.std.proofs.Common.{ℕ, zero, suc, ◌≡◌, ◌+◌, ◌*◌, ◌/◌, ◌%◌, ◌<◌, ◌≤◌, List, [], ◌∷◌, ◌++◌, length, Vec, Result, Ok, Err, refl, sym, ap, subst, ◌∙◌, arith, add-one, mul-le-mul_right, div-add-mod', ◌⊎◌, inl, inr}
use Rattle.std.specs.Prelude.{Contains, MatchResult}
use Rattle.std.proofs.lemmas.Bool.{cases_lt}
use Rattle.std.proofs.lemmas.Nat.{mod_below}
use Rattle.std.proofs.lemmas.List.{get_or_default}
use Rattle.std.proofs.lemmas.List.Elements.{Contains-get_or, Contains-append_left, Contains-append_right, Contains-push, Contains-push_cases, Contains-append_cases}
use Rattle.lasso_parts.specs.Texts.{Text, position_of}
use Rattle.lasso_single.specs.Codes.{AreCodes}
use mathlib.Core.List.{IsPrefix}
use Rattle.lasso_single.proofs.Coded.{codes_past, map_some_both}
use Rattle.lasso_lines.specs.Shares.{line_at, share, IsShare, HasCodes, AreCodesOf}

line_there : (lines : List Text) (i : ℕ) → i < length lines → Contains lines (line_at lines i)
line_there lines i small = Contains-get_or lines i [] small

-- each of a worker's lines is one of the lines
share_inside : (lines : List Text) (worker workers count : ℕ) → ((n : ℕ) → n < count → worker + n * workers < length lines) → (text : Text) → Contains (share lines worker workers count) text → Contains lines text
share_inside lines worker workers zero inside text there = absurd (omega (arith, there.1))
share_inside lines worker workers (suc n) inside text there = elim (Contains-push_cases (share lines worker workers n) (line_at lines (worker + n * workers)) text there) [
  | inl before ↦ share_inside lines worker workers n (λ m small. inside m (omega arith)) text before
  | inr is ↦ subst (λ t. Contains lines t) is (line_there lines (worker + n * workers) (inside n (omega arith)))
]

share_more : (lines : List Text) (worker workers n j : ℕ) → j < suc n → ((j < n) ⊎ (n ≤ j)) → (j < n → Contains (share lines worker workers n) (line_at lines (worker + j * workers))) → Contains (share lines worker workers (suc n)) (line_at lines (worker + j * workers))
share_more lines worker workers n j small (inl before) has = Contains-append_left (share lines worker workers n) _ _ (has before)
share_more lines worker workers n j small (inr last) has =
    let is : j ≡ n = omega arith in
    subst (λ k. Contains (share lines worker workers (suc n)) (line_at lines (worker + k * workers))) (sym is) (Contains-push (share lines worker workers n) (line_at lines (worker + n * workers)))

-- each line of a worker is in its share
pub share_has : (lines : List Text) (worker workers count j : ℕ) → j < count → Contains (share lines worker workers count) (line_at lines (worker + j * workers))
share_has lines worker workers zero j small = absurd (omega arith)
share_has lines worker workers (suc n) j small = share_more lines worker workers n j small (cases_lt j n) (λ before. share_has lines worker workers n j before)

below_count : (lines : List Text) (worker workers count j : ℕ) → IsShare lines worker workers count → worker + j * workers < length lines → ((j < count) ⊎ (count ≤ j)) → j < count
below_count lines worker workers count j is small (inl below) = below
below_count lines worker workers count j is small (inr above) =
    let far : count * workers ≤ j * workers = mul-le-mul_right workers above in absurd (omega (arith, is.whole))

-- the line at a position is in its worker's share
pub share_reaches : (lines : List Text) (worker workers count i : ℕ) → IsShare lines worker workers count → i < length lines → i % workers ≡ worker → Contains (share lines worker workers count) (line_at lines i)
share_reaches lines worker workers count i is small mine =
    let j = i / workers in
    let adds : worker + j * workers ≡ i = omega (arith, div-add-mod' i workers) in
    let here : worker + j * workers < length lines = omega arith in
    subst (λ k. Contains (share lines worker workers count) (line_at lines k)) adds (share_has lines worker workers count j (below_count lines worker workers count j is here (cases_lt j count)))

-- ---- all workers

-- the codes of the lines of the first `done` workers, in a list
pub record Gathered (list lines : List Text) (workers done : ℕ) (codes : List ℕ) : Type 0 where
  pub texts : List Text
  pub inside : (text : Text) → Contains texts text → Contains lines text
  pub reached : (i : ℕ) → i < length lines → i % workers < done → Contains texts (line_at lines i)
  pub coded : AreCodes list texts codes

pub gathered_none : (list lines : List Text) (workers : ℕ) → Gathered list lines workers 0 []
gathered_none list lines workers = record {
  texts = [];
  inside = λ text there. absurd (omega (arith, there.1));
  reached = λ i small none. absurd (omega arith);
  coded = refl;
}

module _ (before known after lines : List Text) (workers done : ℕ) (codes more : List ℕ) (begins : IsPrefix before after) (knows : IsPrefix known after) (gathered : Gathered before lines workers done codes) (has : HasCodes known lines done workers more) where
  abbrev its_lines : List Text
  its_lines = share lines done workers has.0

  reached_more : (i : ℕ) → i < length lines → i % workers < done + 1 → ((i % workers < done) ⊎ (done ≤ i % workers)) → Contains (gathered.texts ++ its_lines) (line_at lines i)
  reached_more i small below (inl earlier) = Contains-append_left gathered.texts its_lines _ (gathered.reached i small earlier)
  reached_more i small below (inr its) = Contains-append_right gathered.texts its_lines _ (share_reaches lines done workers has.0 i has.1 small (omega arith))

  -- one more worker, and a list that may have grown
  pub gathered_more : Gathered after lines workers (done + 1) (codes ++ more)
  gathered_more = record {
    texts = gathered.texts ++ its_lines;
    inside = λ text there. elim (Contains-append_cases gathered.texts its_lines text there) [
      | inl earlier ↦ gathered.inside text earlier
      | inr its ↦ share_inside lines done workers has.0 has.1.inside text its
    ];
    reached = λ i small below. reached_more i small below (cases_lt (i % workers) done);
    coded = map_some_both (position_of after) gathered.texts its_lines codes more (codes_past before after gathered.texts codes begins gathered.coded) (codes_past known after its_lines more knows has.2);
  }

-- all workers together have all lines
pub gathered_all : (list lines : List Text) (workers done : ℕ) (codes : List ℕ) → 0 < workers → workers ≤ done → Gathered list lines workers done codes → AreCodesOf list lines codes
gathered_all list lines workers done codes some all gathered = (
  gathered.texts,
  (λ text. (
    gathered.inside text,
    λ there.
        let at : line_at lines there.0 ≡ text = get_or_default lines there.0 [] text there.1 ∙ there.2 in
        let mine : there.0 % workers < done = omega (arith, mod_below there.0 workers some) in
        subst (λ t. Contains gathered.texts t) at (gathered.reached there.0 there.1 mine),
  )),
  gathered.coded,
)

-- ---- a worker's lines one after another

-- one more line of the worker
pub share_next : (lines : List Text) (worker workers n at : ℕ) (line : Text) → at ≡ worker + n * workers → line_at lines at ≡ line → share lines worker workers n ++ line ∷ [] ≡ share lines worker workers (n + 1)
share_next lines worker workers n at line is read =
    let here : line_at lines (worker + n * workers) ≡ line = ap (line_at lines) (sym is) ∙ read in
    ap (λ (t : Text). share lines worker workers n ++ t ∷ []) (sym here) ∙ sym (ap (share lines worker workers) (add-one n))

-- the codes that a worker returned are added, if none of its lines was refused
pub gathered_worker : {A E : Type 0} (Q : E → Type 0) (before known after lines : List Text) (workers done : ℕ) (codes : List ℕ) (outcome : Result (Vec ℕ A) E) (all : List ℕ) → IsPrefix before after → IsPrefix known after → Gathered before lines workers done codes → MatchResult outcome (λ more. HasCodes known lines done workers more.items) Q → MatchResult outcome (λ more. all ≡ codes ++ more.items) (λ _. ⊥) → Gathered after lines workers (done + 1) all
gathered_worker Q before known after lines workers done codes (Ok more) all begins knows gathered has is =
    subst (λ (cs : List ℕ). Gathered after lines workers (done + 1) cs) (sym is) (gathered_more before known after lines workers done codes more.items begins knows gathered has)
gathered_worker Q before known after lines workers done codes (Err e) all begins knows gathered has none = absurd none
