-- The texts at marked positions.
--
-- A mark chooses the text at its position. So every chosen text is at a marked position, and every text at
-- a marked position is chosen. In a distinct list no text is chosen twice.
use Rattle.std.proofs.Common.{ℕ, zero, suc, ◌≡◌, ◌+◌, ◌<◌, ◌≤◌, List, [], ◌∷◌, ◌++◌, length, get_or, Bool, true, false, cond, Some, refl, sym, ap, subst, ◌∙◌, drop, drop-cons, add-one, replicate, arith, ◌⊎◌, inl, inr}
use Rattle.std.specs.Prelude.{Contains, slice_get}
use Rattle.std.specs.List.{IsDistinct, AllByRecursion}
use Rattle.std.specs.Str.{bytes_eq}
use Rattle.std.proofs.lemmas.List.{drop_all}
use Rattle.std.proofs.lemmas.List.Elements.{Contains-push, Contains-push_cases, Contains-append_left}
use Rattle.lasso_parts.specs.Texts.{Text}
use Rattle.lasso_lines.proofs.Fronts.{Compared, lower, same, higher, compared}

-- the texts at marked positions
abbrev pub chosen : List Bool → List Text → List Text
chosen [] texts = []
chosen (mark ∷ marks) [] = []
chosen (mark ∷ marks) (text ∷ texts) = cond mark (text ∷ chosen marks texts) (chosen marks texts)

abbrev pub IsMarked : List Bool → List Text → Text → Type 0
IsMarked marks texts text = (k : ℕ) × (get_or marks k false ≡ true) × (slice_get texts k ≡ Some text)

none_marked : (marks : List Bool) → chosen marks [] ≡ []
none_marked [] = refl
none_marked (mark ∷ marks) = refl

later_marked : (mark : Bool) (marks : List Bool) (first : Text) (texts : List Text) (text : Text) → IsMarked marks texts text → IsMarked (mark ∷ marks) (first ∷ texts) text
later_marked mark marks first texts text (k, is, there) = (suc k, is, there)

here_or_later : (x : Text) (xs : List Text) (text : Text) → Contains (x ∷ xs) text → (x ≡ text) ⊎ Contains xs text
here_or_later x xs text (zero, small, is) = inl is
here_or_later x xs text (suc k, small, is) = inr (k, omega arith, is)

later_contained : (x : Text) (xs : List Text) (text : Text) → Contains xs text → Contains (x ∷ xs) text
later_contained x xs text (k, small, is) = (suc k, omega arith, is)

-- a chosen text is marked
pub chosen_marked : (marks : List Bool) (texts : List Text) (text : Text) → Contains (chosen marks texts) text → IsMarked marks texts text
chosen_marked [] texts text there = absurd (omega (arith, there.1))
chosen_marked (mark ∷ marks) [] text there = absurd (omega (arith, there.1))
chosen_marked (false ∷ marks) (first ∷ texts) text there = later_marked false marks first texts text (chosen_marked marks texts text there)
chosen_marked (true ∷ marks) (first ∷ texts) text there = elim (here_or_later first (chosen marks texts) text there) [
  | inl is ↦ (0, refl, ap (λ (t : Text). Some t) is)
  | inr later ↦ later_marked true marks first texts text (chosen_marked marks texts text later)
]

-- a marked text is chosen
pub marked_chosen : (marks : List Bool) (texts : List Text) (text : Text) (k : ℕ) → get_or marks k false ≡ true → slice_get texts k ≡ Some text → Contains (chosen marks texts) text
marked_chosen [] texts text k is there = cc
marked_chosen (mark ∷ marks) [] text k is there = cc
marked_chosen (true ∷ marks) (first ∷ texts) text zero is there = (0, omega arith, cc)
marked_chosen (false ∷ marks) (first ∷ texts) text zero is there = cc
marked_chosen (true ∷ marks) (first ∷ texts) text (suc k) is there = later_contained first (chosen marks texts) text (marked_chosen marks texts text k is there)
marked_chosen (false ∷ marks) (first ∷ texts) text (suc k) is there = marked_chosen marks texts text k is there

all_chosen : (P : Text → Type 0) (marks : List Bool) (texts : List Text) → AllByRecursion P texts → AllByRecursion P (chosen marks texts)
all_chosen P [] texts all = tt
all_chosen P (mark ∷ marks) [] all = tt
all_chosen P (true ∷ marks) (text ∷ texts) all = (all.0, all_chosen P marks texts all.1)
all_chosen P (false ∷ marks) (text ∷ texts) all = all_chosen P marks texts all.1

-- distinct texts stay distinct
pub distinct_chosen : (marks : List Bool) (texts : List Text) → IsDistinct bytes_eq texts → IsDistinct bytes_eq (chosen marks texts)
unfolding IsDistinct
distinct_chosen [] texts apart = tt
distinct_chosen (mark ∷ marks) [] apart = tt
distinct_chosen (true ∷ marks) (text ∷ texts) apart = (all_chosen (λ other. bytes_eq text other ≡ false) marks texts apart.0, distinct_chosen marks texts apart.1)
distinct_chosen (false ∷ marks) (text ∷ texts) apart = distinct_chosen marks texts apart.1

-- ---- one mark after another

first_marked : (mark : Bool) (marks : List Bool) (text : Text) (texts : List Text) → chosen (mark ∷ marks) (text ∷ texts) ≡ cond mark (text ∷ []) [] ++ chosen marks texts
first_marked true marks text texts = refl
first_marked false marks text texts = refl

-- the text at position k if its mark is set, and then the texts chosen by the later marks
pub chosen_next : (marks : List Bool) (k : ℕ) (d : Bool) (text : Text) (rest strings : List Text) → k < length marks → strings ≡ text ∷ rest → chosen (drop k marks) strings ≡ cond (get_or marks k d) (text ∷ []) [] ++ chosen (drop (k + 1) marks) rest
chosen_next marks k d text rest strings small ahead =
    let mark = get_or marks k d in
    let here : drop k marks ≡ mark ∷ drop (k + 1) marks = drop-cons marks k d small ∙ ap (λ n. mark ∷ drop n marks) (sym (add-one k)) in
    ap (λ ms. chosen ms strings) here ∙ ap (λ ts. chosen (mark ∷ drop (k + 1) marks) ts) ahead ∙ first_marked mark (drop (k + 1) marks) text rest

-- no text is chosen after the last mark
pub chosen_past : (marks : List Bool) (k : ℕ) (strings : List Text) → length marks ≤ k → chosen (drop k marks) strings ≡ []
chosen_past marks k strings past = ap (λ ms. chosen ms strings) (drop_all k marks past)

-- no text is chosen after the last text
pub chosen_ended : (marks : List Bool) (strings : List Text) → strings ≡ [] → chosen marks strings ≡ []
chosen_ended marks strings none = ap (chosen marks) none ∙ none_marked marks

-- ---- marking positions one after another

-- the marks are set at the codes, as far as the marks reach, and nowhere else
pub record AreMarks (marks : List Bool) (codes : List ℕ) : Type 0 where
  pub marked : (p : ℕ) → p < length marks → Contains codes p → get_or marks p false ≡ true
  pub only : (p : ℕ) → get_or marks p false ≡ true → Contains codes p

-- the mark at one position was set, if the marks reach it
pub record IsMarkedAt (old new : List Bool) (at : ℕ) : Type 0 where
  pub long : length new ≡ length old
  pub here : at < length old → get_or new at false ≡ true
  pub others : (p : ℕ) → ¬ (p ≡ at) → get_or new p false ≡ get_or old p false

module _ (old new : List Bool) (codes : List ℕ) (at : ℕ) (marks : AreMarks old codes) (step : IsMarkedAt old new at) where
  still_marked : (p : ℕ) → p < length new → Contains codes p ⊎ (at ≡ p) → Compared p at → get_or new p false ≡ true
  still_marked p small there (same is) = subst (λ k. get_or new k false ≡ true) (sym is) (step.here (omega (arith, step.long)))
  still_marked p small (inl there) (lower below) = step.others p (λ e. omega arith) ∙ marks.marked p (omega (arith, step.long)) there
  still_marked p small (inr is) (lower below) = absurd (omega arith)
  still_marked p small (inl there) (higher above) = step.others p (λ e. omega arith) ∙ marks.marked p (omega (arith, step.long)) there
  still_marked p small (inr is) (higher above) = absurd (omega arith)

  only_marked : (p : ℕ) → get_or new p false ≡ true → Compared p at → Contains (codes ++ at ∷ []) p
  only_marked p is (same equal) = subst (λ k. Contains (codes ++ at ∷ []) k) (sym equal) (Contains-push codes at)
  only_marked p is (lower below) = Contains-append_left codes (at ∷ []) p (marks.only p (sym (step.others p (λ e. omega arith)) ∙ is))
  only_marked p is (higher above) = Contains-append_left codes (at ∷ []) p (marks.only p (sym (step.others p (λ e. omega arith)) ∙ is))

  pub marks_more : AreMarks new (codes ++ at ∷ [])
  marks_more = record {
    marked = λ p small there. still_marked p small (Contains-push_cases codes at p there) (compared p at);
    only = λ p is. only_marked p is (compared p at);
  }

-- no mark is set at first
pub no_marks : (len : ℕ) → AreMarks (replicate len false) []
no_marks len = record {
  marked = λ p small there. absurd (omega (arith, there.1));
  only = λ p is. absurd (none len p is);
}
  where
    none : (len p : ℕ) → get_or (replicate len false) p false ≡ true → ⊥
    none zero p is = cc
    none (suc len) zero is = cc
    none (suc len) (suc p) is = none len p is
