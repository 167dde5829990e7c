-- What a walk has left after steps from its ends.
--
-- Numbering goes through the list from its front, and adds one at each text. So the text at position k has the
-- first number and k; a part of the list is numbered from the number of its
-- own first text.
use Rattle.std.proofs.Common.{◌≡◌, ℕ, zero, suc, ◌+◌, ◌-◌, List, [], ◌∷◌, ◌++◌, length, map, take, drop, get_or, Some, None, ◌<◌, ◌≤◌, refl, sym, ap, ◌∙◌, arith}
use Rattle.std.specs.Prelude.{slice_get, option_map}
use Rattle.std.proofs.lemmas.Grind.{common_steps}
use Rattle.std.specs.List.{enumerate_from, take-map}
use Rattle.std.proofs.lemmas.List.{length-map, length-drop, drop_all}
use Rattle.std.proofs.lemmas.List.FromFn.{length-enumerate_from}
use Rattle.std.proofs.lemmas.Option.{slice_get-map, slice_get-get_or, slice_get_within, slice_get_past, slice_get_cases}
use Rattle.lasso_parts.specs.Texts.{Text}

-- a text at the end has the number after the last
pub enumerate_from-push : (n : ℕ) (ts : List Text) (t : Text) → enumerate_from n (ts ++ t ∷ []) ≡ enumerate_from n ts ++ (n + length ts, t) ∷ []
enumerate_from-push n [] t = grind arith
enumerate_from-push n (u ∷ ts) t = grind (arith, enumerate_from-push (n + 1) ts t)

pub take-enumerate_from : (k n : ℕ) (ts : List Text) → take k (enumerate_from n ts) ≡ enumerate_from n (take k ts)
take-enumerate_from zero n ts = refl
take-enumerate_from (suc k) n [] = refl
take-enumerate_from (suc k) n (t ∷ ts) = grind (arith, take-enumerate_from k (n + 1) ts)

pub drop-enumerate_from : (k n : ℕ) (ts : List Text) → drop k (enumerate_from n ts) ≡ enumerate_from (n + k) (drop k ts)
drop-enumerate_from zero n ts = grind arith
drop-enumerate_from (suc k) n [] = refl
drop-enumerate_from (suc k) n (t ∷ ts) = grind (arith, drop-enumerate_from k (n + 1) ts)

-- the item at position k
pub slice_get-enumerate_from : (k n : ℕ) (ts : List Text) → slice_get (enumerate_from n ts) k ≡ option_map (λ t. (n + k, t)) (slice_get ts k)
slice_get-enumerate_from k n [] = refl
slice_get-enumerate_from zero n (t ∷ ts) = grind arith
slice_get-enumerate_from (suc k) n (t ∷ ts) = grind (arith, slice_get-enumerate_from k (n + 1) ts)

past_end : (n : ℕ) (ts : List Text) → None ≡ slice_get ts n → length ts ≤ n + 1
past_end n ts none = grind (arith, common_steps, slice_get_cases ts n)

-- how many texts are left after the one at position n
pub left_behind : (n : ℕ) (ts rest : List Text) (t : Text) → Some t ≡ slice_get ts n → rest ≡ drop (n + 1) ts → n + 1 + length rest ≡ length ts
left_behind n ts rest t some is =
    let inside : n < length ts = slice_get_within ts n t (sym some) in
    let left : length rest ≡ length ts - (n + 1) = ap length is ∙ length-drop (n + 1) ts in
    omega arith

-- a walk that was asked to pass over more than it has
pub past_all : (n first : ℕ) (ts rest : List Text) (items : List (ℕ × Text)) → enumerate_from first ts ≡ items → None ≡ slice_get ts n → rest ≡ drop (n + 1) ts → enumerate_from first rest ≡ drop (n + 1) items
past_all n first ts rest items e none is =
    let empty : drop (n + 1) ts ≡ [] = drop_all (n + 1) ts (past_end n ts none) in
    ap (enumerate_from first) (is ∙ empty) ∙ sym (ap (enumerate_from (first + (n + 1))) empty) ∙ sym (drop-enumerate_from (n + 1) first ts) ∙ ap (drop (n + 1)) e

-- ---- texts of entries

module _ {X : Type 0} (lends : X → Text) where
  -- a front of the list
  pub taken_texts : (xs : List X) (ts : List Text) (k : ℕ) → map lends xs ≡ ts → map lends (take k xs) ≡ take k ts
  taken_texts xs ts k e = sym (take-map lends k xs) ∙ ap (take k) e

  -- the text at a position
  pub shown_text : (xs : List X) (ts : List Text) (k : ℕ) (d : X) (t : Text) → map lends xs ≡ ts → k < length xs → t ≡ lends (get_or xs k d) → Some t ≡ slice_get ts k
  shown_text xs ts k d t e inside is =
      ap Some is ∙ sym (ap (option_map lends) (slice_get-get_or xs k d inside)) ∙ sym (slice_get-map lends xs k) ∙ ap (λ (l : List Text). slice_get l k) e

  -- no text past the end
  pub no_text : (xs : List X) (ts : List Text) (k : ℕ) → map lends xs ≡ ts → length xs ≤ k → None ≡ slice_get ts k
  no_text xs ts k e past = let long : length ts ≡ length xs = sym (ap length e) ∙ length-map xs lends in sym (slice_get_past ts k (omega arith))

  -- the position that is n before the last
  pub from_back : (xs : List X) (ts : List Text) (n : ℕ) → map lends xs ≡ ts → length xs - 1 - n ≡ length ts - (n + 1)
  from_back xs ts n e = omega (arith, sym (ap length e) ∙ length-map xs lends)

pub ruleset walk_steps = (length-enumerate_from, enumerate_from-push, take-enumerate_from, drop-enumerate_from, slice_get-enumerate_from, common_steps)
