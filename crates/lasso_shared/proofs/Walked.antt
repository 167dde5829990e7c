-- What a walk over a list that was seen has left, and what it gives.
--
-- A walk at position n has left what the list has from n on: the text at n, and after it what a walk at n + 1
-- has left. Where each position of the list has a key, no text is left out after its key. So the number of
-- pairs is that of the texts, the keys of the pairs are those of their positions, and one who was told the
-- list of a legal history was told its pairs.
use Rattle.std.proofs.Common.{◌≡◌, ℕ, zero, suc, ◌+◌, List, [], ◌∷◌, ◌++◌, length, map, drop, Option, Some, None, Ok, refl, sym, ap, ◌∙◌, subst, append_assoc, arith}
use Rattle.std.proofs.lemmas.Bool.{true≢false}
use Rattle.std.proofs.lemmas.Grind.{common_steps}
use Rattle.std.proofs.lemmas.List.{length-drop, drop_all}
use Rattle.std.specs.List.{enumerate_from}
use Rattle.std.specs.Prelude.{slice_get, IsSome}
use Rattle.lasso_parts.specs.Texts.{Text, Fits}
use Rattle.lasso_log.specs.History.{History, Totals, totals, IsOpening, IsLegal}
use Rattle.lasso_log.specs.Replies.{Iterate, Strings, Pairs, Listed, IsWalkOf}
use Rattle.lasso_log.specs.Calls.{IsCall}
use Rattle.lasso_shared.specs.Walks.{pairs_from}
use Rattle.lasso_log.proofs.Legal.{legal_parts, list_kept}

-- the text at a position and those after it
pub left_at : (n : ℕ) (ts : List Text) (t : Text) → slice_get ts n ≡ Some t → drop n ts ≡ t ∷ drop (n + 1) ts
left_at zero [] t at = absurd cc
left_at (suc n) [] t at = absurd cc
left_at zero (u ∷ ts) t at = grind (arith, at)
left_at (suc n) (u ∷ ts) t at = grind (arith, left_at n ts t at)

pub ruleset walk_steps = (left_at, length-drop, drop_all, common_steps)

module _ {K : Type 0} (key_at : ℕ → Option K) where
  there : (o : Option K) → IsSome o → (k : K) × (o ≡ Some k)
  there None some = absurd (true≢false (sym some))
  there (Some k) some = (k, refl)

  -- after the first pair come those of the later positions
  pub first_pair : (n : ℕ) (t : Text) (ts : List Text) (k : K) → key_at n ≡ Some k → pairs_from key_at n (t ∷ ts) ≡ (k, t) ∷ pairs_from key_at (n + 1) ts
  first_pair n t ts k is = rw is refl

  length-pairs : (n : ℕ) (ts : List Text) → Fits key_at (n + length ts) → length (pairs_from key_at n ts) ≡ length ts
  length-pairs n [] fits = refl
  length-pairs n (t ∷ ts) fits =
      let k = there (key_at n) (fits n (omega arith)) in
      let rest = length-pairs (n + 1) ts (λ i below. fits i (omega (arith, below))) in
      ap length (first_pair n t ts k.0 k.1) ∙ omega (arith, rest)

  -- the number of pairs left is that of the texts left
  pub pairs_left : (n : ℕ) (ts : List Text) (pairs : List (K × Text)) → pairs_from key_at n ts ≡ pairs → Fits key_at (n + length ts) → length pairs ≡ length ts
  pairs_left n ts pairs is fits = sym (ap length is) ∙ length-pairs n ts fits

  -- where each position has a key the pairs are all texts with their keys
  pub walk_from : (n : ℕ) (ts : List Text) → Fits key_at (n + length ts) → map {B = Option K × Text} (λ e. (Some e.0, e.1)) (pairs_from key_at n ts) ≡ map (λ e. (key_at e.0, e.1)) (enumerate_from n ts)
  walk_from n [] fits = refl
  walk_from n (t ∷ ts) fits =
      let k = there (key_at n) (fits n (omega arith)) in
      let rest = walk_from (n + 1) ts (λ i below. fits i (omega (arith, below))) in
      ap (map {B = Option K × Text} (λ e. (Some e.0, e.1))) (first_pair n t ts k.0 k.1)
      ∙ ap (λ (es : List (Option K × Text)). (Some k.0, t) ∷ es) rest
      ∙ ap (λ (o : Option K). (o, t) ∷ map (λ e. (key_at e.0, e.1)) (enumerate_from (n + 1) ts)) (sym k.1)

  module _ (o : Totals) (before after : History) (p : ℕ) (texts : List Text) (opens : IsOpening key_at o) (legal : IsLegal key_at o after) (c : IsCall key_at o before after p Strings (Listed (Ok texts))) where
    told : texts ≡ (totals o (before ++ c.explained.0)).texts
    told = cc c.explained.4

    -- the texts that were told have keys
    pub told_fit : Fits key_at (length texts)
    told_fit =
        let x = c.explained in
        let whole : (before ++ x.0) ++ x.1 ≡ after = append_assoc before x.0 x.1 ∙ ap (λ (h : History). before ++ h) x.2 ∙ c.begins in
        let past = (legal_parts key_at o (before ++ x.0) x.1 (subst (IsLegal key_at o) (sym whole) legal)).0 in
        subst (λ (ts : List Text). Fits key_at (length ts)) (sym told) (list_kept key_at o (before ++ x.0) opens.distinct opens.fits past).1

    -- one who was told the texts was told the pairs
    pub told_pairs : IsCall key_at o before after p Iterate (Pairs (pairs_from key_at 0 texts))
    told_pairs =
        let x = c.explained in record {
          past = c.past;
          begins = c.begins;
          explained = (x.0, x.1, x.2, x.3, subst (λ (ts : List Text). IsWalkOf key_at ts (pairs_from key_at 0 texts)) told (walk_from 0 texts (λ i below. told_fit i (omega (arith, below)))));
          makes = c.makes;
        }
