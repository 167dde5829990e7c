-- Why the refused line that is reported is the lowest one.
--
-- A worker stops at its first refused line, so its lines before that one are in the list. If none is
-- refused, all of its lines are. The lowest refused line of some workers is at most that of each. So each
-- of their lines before it is in the list, which only grows.
use Rattle.std.proofs.Common.{ℕ, ◌≡◌, ◌+◌, ◌*◌, ◌/◌, ◌%◌, ◌<◌, ◌≤◌, ◌⊎◌, inl, inr, List, length, Option, Some, None, Result, Ok, Err, Vec, sym, subst, ap, arith, div-add-mod', mul-le-mul_right}
use Rattle.std.specs.Prelude.{Contains, IsSomeAnd, MatchResult, slice_get}
use Rattle.std.proofs.lemmas.Bool.{cases_lt}
use Rattle.std.proofs.lemmas.Nat.{mod_below}
use Rattle.std.proofs.lemmas.Option.{slice_get_within, get_or_from_slice_get}
use Rattle.std.proofs.lemmas.List.Elements.{Contains-get_or, Contains-append_left}
use mathlib.Core.List.{IsPrefix}
use Rattle.lasso_parts.specs.Texts.{Text, position_of}
use Rattle.lasso_parts.proofs.TextLemmas.{position_here}
use Rattle.lasso_log.specs.History.{Totals}
use Rattle.lasso_log.specs.Notes.{NoteView, history, state}
use Rattle.lasso_single.specs.Codes.{AreCodes}
use Rattle.lasso_lines.specs.Shares.{line_at, share, AreInBefore, HasCodes, IsLower, IsRefusedBy, NumberedError}
use Rattle.lasso_lines.proofs.Named.{each_found}
use Rattle.lasso_lines.proofs.ShareLines.{share_has, share_reaches}

-- the line at this position comes before the lowest refused line, if there is one
abbrev pub ComesBefore : Option NumberedError → ℕ → Type 0
ComesBefore None i = Unit {0}
ComesBefore (Some refusal) i = i + 1 < refusal.0

-- the lines of the first `done` workers that come before the lowest refused line are in the list
abbrev pub AreReached : List Text → List Text → (workers done : ℕ) → Option NumberedError → Type 0
AreReached list lines workers done lowest = (i : ℕ) → i < length lines → i % workers < done → ComesBefore lowest i → Contains list (line_at lines i)

pub reached_none : (list lines : List Text) (workers : ℕ) (lowest : Option NumberedError) → AreReached list lines workers 0 lowest
reached_none list lines workers lowest = λ i small none before. absurd (omega arith)

-- a text in a list is in each list that begins with it
pub still_there : (list later : List Text) (text : Text) → IsPrefix list later → Contains list text → Contains later text
still_there list later text begins there = subst (λ (ts : List Text). Contains ts text) begins.1 (Contains-append_left list begins.0 text there)

-- a text at a position of the list is in the list
stands_there : (list : List Text) (text : Text) (n : ℕ) → slice_get list n ≡ Some text → Contains list text
stands_there list text n is = subst (Contains list) (get_or_from_slice_get list n text text is) (Contains-get_or list n text (slice_get_within list n text is))

-- a text with a code is in the list
pub coded_there : (list texts : List Text) (codes : List ℕ) (text : Text) → AreCodes list texts codes → Contains texts text → Contains list text
coded_there list texts codes text are there =
    let found = each_found (position_of list) texts codes text are there in
    stands_there list text found.0 (position_here list text found.0 found.2)

-- a worker's lines with codes are in the list
pub lines_coded : (list lines : List Text) (worker workers count : ℕ) (codes : List ℕ) → AreCodes list (share lines worker workers count) codes → (j : ℕ) → j < count → Contains list (line_at lines (worker + j * workers))
lines_coded list lines worker workers count codes are j small =
    coded_there list (share lines worker workers count) codes (line_at lines (worker + j * workers)) are (share_has lines worker workers count j small)

below_times : (i worker workers j n : ℕ) → i ≡ worker + j * workers → i < worker + n * workers → ((j < n) ⊎ (n ≤ j)) → j < n
below_times i worker workers j n is small (inl below) = below
below_times i worker workers j n is small (inr above) = let far : n * workers ≤ j * workers = mul-le-mul_right workers above in absurd (omega (arith, is, far))

-- a worker's lines before its refused line are in the list
before_refused : (list lines : List Text) (worker workers n i : ℕ) → ((j : ℕ) → j < n → Contains list (line_at lines (worker + j * workers))) → i % workers ≡ worker → i < worker + n * workers → Contains list (line_at lines i)
before_refused list lines worker workers n i reached mine small =
    let j = i / workers in
    let is : i ≡ worker + j * workers = omega (arith, div-add-mod' i workers) in
    subst (λ k. Contains list (line_at lines k)) (sym is) (reached j (below_times i worker workers j n is small (cases_lt j n)))

-- ---- one more worker

module _ (o : Totals) (before known after : List NoteView) (lines : List Text) (workers done : ℕ) (begins : IsPrefix (state o before).texts (state o after).texts) (knows : IsPrefix (state o known).texts (state o after).texts) where
  earlier_reached : (lowest : Option NumberedError) (i : ℕ) → AreReached (state o before).texts lines workers done lowest → i < length lines → i % workers < done → ComesBefore lowest i → Contains (state o after).texts (line_at lines i)
  earlier_reached lowest i reached small earlier comes = still_there (state o before).texts (state o after).texts (line_at lines i) begins (reached i small earlier comes)

  whole_reached : (lowest : Option NumberedError) (codes : List ℕ) (i : ℕ) → AreReached (state o before).texts lines workers done lowest → HasCodes (state o known).texts lines done workers codes → i < length lines → ((i % workers < done) ⊎ (done ≤ i % workers)) → i % workers < done + 1 → ComesBefore lowest i → Contains (state o after).texts (line_at lines i)
  whole_reached lowest codes i reached has small (inl earlier) below comes = earlier_reached lowest i reached small earlier comes
  whole_reached lowest codes i reached has small (inr its) below comes =
      still_there (state o known).texts (state o after).texts (line_at lines i) knows
      (coded_there (state o known).texts (share lines done workers has.0) codes (line_at lines i) has.2 (share_reaches lines done workers has.0 i has.1 small (omega arith)))

  -- the new lowest refused line is at most the one before and at most the worker's
  lower_bounds : (first other result : NumberedError) → ((other.0 < first.0) ⊎ (first.0 ≤ other.0)) → IsLower (Some first) other result → (result.0 ≤ first.0) × (result.0 ≤ other.0)
  lower_bounds first other result (inl higher) is = let same = ap (λ (r : NumberedError). r.0) (is.1 higher) in (omega (arith, same, higher), omega (arith, same))
  lower_bounds first other result (inr lower) is = let same = ap (λ (r : NumberedError). r.0) (is.0 lower) in (omega (arith, same), omega (arith, same, lower))

  below_first : (lowest : Option NumberedError) (other result : NumberedError) (i : ℕ) → IsLower lowest other result → i + 1 < result.0 → ComesBefore lowest i
  below_first None other result i is comes = tt
  below_first (Some first) other result i is comes = omega (arith, comes, (lower_bounds first other result (cases_lt other.0 first.0) is).0)

  below_other : (lowest : Option NumberedError) (other result : NumberedError) → IsLower lowest other result → result.0 ≤ other.0
  below_other None other result is = omega (arith, ap (λ (r : NumberedError). r.0) is)
  below_other (Some first) other result is = (lower_bounds first other result (cases_lt other.0 first.0) is).1

  part_reached : (lowest : Option NumberedError) (other result : NumberedError) (i : ℕ) → AreReached (state o before).texts lines workers done lowest → IsRefusedBy o (history known) lines done workers other → IsLower lowest other result → i < length lines → ((i % workers < done) ⊎ (done ≤ i % workers)) → i % workers < done + 1 → i + 1 < result.0 → Contains (state o after).texts (line_at lines i)
  part_reached lowest other result i reached why is small (inl earlier) below comes = earlier_reached lowest i reached small earlier (below_first lowest other result i is comes)
  part_reached lowest other result i reached why is small (inr its) below comes =
      let least = below_other lowest other result is in
      still_there (state o known).texts (state o after).texts (line_at lines i) knows
      (before_refused (state o known).texts lines done workers why.0 i why.4 (omega arith) (omega (arith, comes, least, why.2)))

  some_reached : (lowest next : Option NumberedError) (other : NumberedError) → AreReached (state o before).texts lines workers done lowest → IsRefusedBy o (history known) lines done workers other → IsSomeAnd next (IsLower lowest other) → AreReached (state o after).texts lines workers (done + 1) next
  some_reached lowest None other reached why is = absurd is
  some_reached lowest (Some result) other reached why is = λ i small below comes. part_reached lowest other result i reached why is small (cases_lt (i % workers) done) below comes

  -- the lines before the lowest refused line, after one more worker
  pub reached_of_worker : {A : Type 0} (lowest next : Option NumberedError) (outcome : Result (Vec ℕ A) NumberedError) → AreReached (state o before).texts lines workers done lowest → MatchResult outcome (λ codes. HasCodes (state o known).texts lines done workers codes.items) (IsRefusedBy o (history known) lines done workers) → MatchResult outcome (λ _. next ≡ lowest) (λ refusal. IsSomeAnd next (IsLower lowest refusal)) → AreReached (state o after).texts lines workers (done + 1) next
  reached_of_worker lowest next (Ok codes) reached has is = subst (AreReached (state o after).texts lines workers (done + 1)) (sym is) (λ i small below comes. whole_reached lowest codes.items i reached has small (cases_lt (i % workers) done) below comes)
  reached_of_worker lowest next (Err other) reached why is = some_reached lowest next other reached why is

-- after all workers
pub all_before : (list lines : List Text) (workers done number : ℕ) (refusal : NumberedError) → 0 < workers → workers ≤ done → number ≤ length lines → refusal.0 ≡ number → AreReached list lines workers done (Some refusal) → AreInBefore list lines number
all_before list lines workers done number refusal some all inside is reached = λ i small. reached i (omega (arith, small, inside)) (omega (arith, mod_below i workers some, all)) (omega (arith, small, is))
