-- The lines that a table keeps, and their bounds.
--
-- The bounds are the lengths of what is kept before. So what is between two of them that follow each other is kept of
-- the line there: the line, unless it is its own text.
use Rattle.std.proofs.Common.{ℕ, zero, suc, ◌≡◌, ◌+◌, ◌-◌, ◌<◌, ◌≤◌, true, false, inl, inr, List, [], ◌∷◌, ◌++◌, Some, length, map, take, drop, get_or, true≢false, refl, sym, ap, subst, ◌∙◌, arith, add-one, append-nil}
use Rattle.std.specs.Prelude.{flat_map, nat_eq, option_map, slice_get}
use Rattle.std.proofs.lemmas.Bool.{cases_Bool, cond-false, cond-true}
use Rattle.std.proofs.lemmas.List.{flat_map_more, length-append, length-map}
use Rattle.std.proofs.lemmas.Option.{get_or_from_slice_get, slice_get-get_or, slice_get-map}
use Rattle.std.proofs.Math.Seq.{drop-append-add, take-append_seam}
use Rattle.lasso_input.specs.Texts.{is_marked, line_of}
use Rattle.lasso_input.proofs.LineTexts.{unmarked_is_line}
use Rattle.lasso_parts.specs.Texts.{Text}
use Rattle.lasso_codes.proofs.LineTexts.{take_next}
use Rattle.lasso_codes.specs.Tables.{AreTableLines, bounds_of, kept_line}

-- ---- what is kept of one line

pub own_is_not_kept : (text : Text) → is_marked text ≡ false → kept_line text ≡ []
own_is_not_kept text own = cond-false _ _ _ own

pub other_is_kept : (text : Text) → is_marked text ≡ true → kept_line text ≡ line_of text
other_is_kept text other = cond-true _ _ _ other

-- ---- bounds

length_of_bounds : (start : ℕ) (lines : List (List ℕ)) → length (bounds_of start lines) ≡ suc (length lines)
length_of_bounds start [] = refl
length_of_bounds start (line ∷ lines) = ap suc (length_of_bounds (start + length line) lines)

first_bound : (start : ℕ) (lines : List (List ℕ)) → get_or (bounds_of start lines) 0 0 ≡ start
first_bound start [] = refl
first_bound start (line ∷ lines) = refl

-- one list more
pub bounds_push : (start : ℕ) (f : Text → List ℕ) (texts : List Text) (text : Text)
    → bounds_of start (map f (texts ++ text ∷ [])) ≡ bounds_of start (map f texts) ++ (start + length (flat_map f (texts ++ text ∷ []))) ∷ []
bounds_push start f [] text = ap (λ (xs : List ℕ). start ∷ (start + length xs) ∷ []) (sym (append-nil (f text)))
bounds_push start f (t ∷ texts) text =
    let both = length-append (f t) (flat_map f (texts ++ text ∷ [])) in
    let same : start + length (f t) + length (flat_map f (texts ++ text ∷ [])) ≡ start + length (f t ++ flat_map f (texts ++ text ∷ [])) = omega (arith, both) in
    ap (λ (bs : List ℕ). start ∷ bs) (bounds_push (start + length (f t)) f texts text ∙ ap (λ (n : ℕ). bounds_of (start + length (f t)) (map f texts) ++ n ∷ []) same)

-- a list among the others, between the bounds `first` and `last`
pub record Between (line whole : List ℕ) (start first last : ℕ) : Type 0 where
  pub low : start ≤ first
  pub last_is : last ≡ first + length line
  pub inside : last ≤ start + length whole
  pub bytes : take (length line) (drop (first - start) whole) ≡ line

head_between : (start : ℕ) (f : Text → List ℕ) (text : Text) (texts : List Text)
    → Between (f text) (f text ++ flat_map f texts) start start (get_or (bounds_of (start + length (f text)) (map f texts)) 0 0)
head_between start f text texts =
    let next = first_bound (start + length (f text)) (map f texts) in
    let none : start - start ≡ 0 = omega arith in
    record {
      low = omega arith;
      last_is = next;
      inside = omega (arith, next, length-append (f text) (flat_map f texts));
      bytes = ap (λ (n : ℕ). take (length (f text)) (drop n (f text ++ flat_map f texts))) none ∙ take-append_seam (f text) (flat_map f texts);
    }

pub line_between : (start : ℕ) (f : Text → List ℕ) (texts : List Text) (n : ℕ) (text : Text) → slice_get texts n ≡ Some text
    → Between (f text) (flat_map f texts) start (get_or (bounds_of start (map f texts)) n 0) (get_or (bounds_of start (map f texts)) (suc n) 0)
line_between start f [] n text at = absurd (cc)
line_between start f (t ∷ texts) zero text at =
    let same : t ≡ text = cc in
    subst (λ (x : Text). Between (f x) (f t ++ flat_map f texts) start start (get_or (bounds_of (start + length (f t)) (map f texts)) 0 0)) same (head_between start f t texts)
line_between start f (t ∷ texts) (suc n) text at =
    let first = get_or (bounds_of (start + length (f t)) (map f texts)) n 0 in
    let rest = line_between (start + length (f t)) f texts n text at in
    let low : start + length (f t) ≤ first = rest.low in
    let after : first - start ≡ length (f t) + (first - (start + length (f t))) = omega (arith, low) in
    record {
      low = omega (arith, low);
      last_is = rest.last_is;
      inside = omega (arith, rest.inside, length-append (f t) (flat_map f texts));
      bytes = ap (λ (k : ℕ). take (length (f text)) (drop k (f t ++ flat_map f texts))) after
          ∙ ap (take (length (f text))) (drop-append-add (f t) (flat_map f texts) (first - (start + length (f t)))) ∙ rest.bytes;
    }

-- ---- tables

-- the kept lines of all texts make a table
pub kept_is_table : (others bounds : List ℕ) (texts : List Text) → others ≡ flat_map kept_line texts → bounds ≡ bounds_of 0 (map kept_line texts)
    → AreTableLines others bounds texts
kept_is_table others [] texts others_are bounds_are = absurd (omega (arith, ap length bounds_are, length_of_bounds 0 (map kept_line texts)))
kept_is_table others (bound ∷ bounds) texts others_are bounds_are = (others_are, bounds_are)

-- the text at a position, and the bounds of what is kept of its line
pub record KeptAt (others bounds : List ℕ) (texts : List Text) (n : ℕ) : Type 0 where
  pub text_is : slice_get texts n ≡ Some (get_or texts n [])
  pub next : n + 1 < length bounds
  pub order : get_or bounds n 0 ≤ get_or bounds (n + 1) 0
  pub inside : get_or bounds (n + 1) 0 ≤ length others
  pub bytes : take (get_or bounds (n + 1) 0 - get_or bounds n 0) (drop (get_or bounds n 0) others) ≡ kept_line (get_or texts n [])

pub kept_at : (others bounds : List ℕ) (texts : List Text) (n : ℕ) → others ≡ flat_map kept_line texts → bounds ≡ bounds_of 0 (map kept_line texts) → n < length texts
    → KeptAt others bounds texts n
kept_at others bounds texts n others_are bounds_are small =
    let all = bounds_of 0 (map kept_line texts) in
    let text = get_or texts n [] in
    let text_is = slice_get-get_or texts n [] small in
    let line = line_between 0 kept_line texts n text text_is in
    let first = get_or all n 0 in
    let last = get_or all (n + 1) 0 in
    let after : last ≡ first + length (kept_line text) = ap (λ k. get_or all k 0) (add-one n) ∙ line.last_is in
    let within : last ≤ 0 + length (flat_map kept_line texts) = subst (λ k. get_or all k 0 ≤ 0 + length (flat_map kept_line texts)) (sym (add-one n)) line.inside in
    let low : 0 ≤ first = line.low in
    let long : last - first ≡ length (kept_line text) = omega (arith, after) in
    let none : first - 0 ≡ first = omega arith in
    rw (others_are, bounds_are) record {
      text_is = text_is;
      next = omega (arith, small, length_of_bounds 0 (map kept_line texts), length-map texts kept_line);
      order = omega (arith, after);
      inside = omega (arith, within);
      bytes = ap (λ (k : ℕ). take k (drop first (flat_map kept_line texts))) long ∙ ap (λ (k : ℕ). take (length (kept_line text)) (drop k (flat_map kept_line texts))) (sym none) ∙ line.bytes;
    }

-- the line there
line_is : (texts : List Text) (n : ℕ) → slice_get texts n ≡ Some (get_or texts n []) → slice_get (map line_of texts) n ≡ Some (line_of (get_or texts n []))
line_is texts n at = slice_get-map line_of texts n ∙ ap (option_map line_of) at

-- what is kept and not empty is the line
pub full_is_line : (texts : List Text) (n : ℕ) (kept : List ℕ) → slice_get texts n ≡ Some (get_or texts n []) → kept ≡ kept_line (get_or texts n []) → nat_eq (length kept) 0 ≡ false
    → slice_get (map line_of texts) n ≡ Some kept
full_is_line texts n kept at is full =
    let text = get_or texts n [] in
    elim (cases_Bool (is_marked text)) [
      | inl other ↦ line_is texts n at ∙ ap Some (sym (is ∙ other_is_kept text other))
      | inr own ↦ absurd (true≢false (ap (λ (xs : List ℕ). nat_eq (length xs) 0) (sym (is ∙ own_is_not_kept text own)) ∙ full))
    ]

-- what is kept of another line is the line
pub other_is_line : (texts : List Text) (n : ℕ) (text kept : List ℕ) → slice_get texts n ≡ Some text → kept ≡ kept_line (get_or texts n []) → is_marked text ≡ true
    → slice_get (map line_of texts) n ≡ Some kept
other_is_line texts n text kept at is other =
    let same : get_or texts n [] ≡ text = get_or_from_slice_get texts n text [] at in
    slice_get-map line_of texts n ∙ ap (option_map line_of) at ∙ ap Some (sym (is ∙ ap kept_line same ∙ other_is_kept text other))

-- a text that is its own line
pub own_is_line : (texts : List Text) (n : ℕ) (text : List ℕ) → slice_get texts n ≡ Some text → is_marked text ≡ false → slice_get (map line_of texts) n ≡ Some text
own_is_line texts n text at own = slice_get-map line_of texts n ∙ ap (option_map line_of) at ∙ ap Some (unmarked_is_line text own)

-- ---- reading back, text by text

-- one text more is kept
pub kept_next : (texts : List Text) (text : Text) (n : ℕ) (kept more : List ℕ) → slice_get texts n ≡ Some text → kept ≡ flat_map kept_line (take n texts) → more ≡ kept ++ kept_line text
    → more ≡ flat_map kept_line (take (n + 1) texts)
kept_next texts text n kept more at so_far is =
    is ∙ ap (λ (xs : List ℕ). xs ++ kept_line text) so_far ∙ flat_map_more kept_line [] (take n texts) text ∙ ap (flat_map kept_line) (sym (take_next n texts text at))

zero_add : (n : ℕ) → n ≡ 0 + n
zero_add n = omega arith

-- and its bound
pub bounds_next : (texts : List Text) (text : Text) (n : ℕ) (bounds more kept : List ℕ) → slice_get texts n ≡ Some text → bounds ≡ bounds_of 0 (map kept_line (take n texts))
    → kept ≡ flat_map kept_line (take (n + 1) texts) → more ≡ bounds ++ length kept ∷ [] → more ≡ bounds_of 0 (map kept_line (take (n + 1) texts))
bounds_next texts text n bounds more kept at so_far kept_is is =
    let next = take_next n texts text at in
    is ∙ ap (λ (bs : List ℕ). bs ++ length kept ∷ []) so_far ∙ ap (λ (k : ℕ). bounds_of 0 (map kept_line (take n texts)) ++ k ∷ []) (zero_add (length kept)) ∙ ap (λ (xs : List ℕ). bounds_of 0 (map kept_line (take n texts)) ++ (0 + length xs) ∷ []) (kept_is ∙ ap (flat_map kept_line) next)
    ∙ sym (bounds_push 0 kept_line (take n texts) text) ∙ ap (λ (ts : List Text). bounds_of 0 (map kept_line ts)) (sym next)
