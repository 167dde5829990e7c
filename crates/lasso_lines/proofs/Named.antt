-- The texts that codes name.
--
-- A code names the text at its position. If codes are the positions of some texts in a list, each of these
-- texts is named. Each named text is one of them, since no two texts have the same position.
use Rattle.std.proofs.Common.{ℕ, zero, suc, ◌≡◌, ◌<◌, List, [], ◌∷◌, ◌++◌, length, map, get_or, Option, Some, Result, Ok, Err, OnOk, IfErr, Bool, true, false, refl, sym, ap, subst, ◌∙◌, append-nil, arith}
use Rattle.std.specs.Prelude.{Contains, slice_get, ◌↔◌}
use mathlib.Core.List.{IsPrefix}
use Rattle.std.proofs.lemmas.Option.{slice_get_within}
use Rattle.lasso_parts.specs.Texts.{Text, position_of, IsDistinct}
use Rattle.lasso_parts.proofs.TextLemmas.{position_here}
use Rattle.lasso_single.specs.Codes.{AreCodes}
use Rattle.lasso_single.proofs.Coded.{codes_past}
use Rattle.lasso_lines.specs.Ordered.{AreSameTexts, IsNamed, AreNamed, WritesNamed, WritesOrdered, BeginsNamed, BeginsOrdered}
use Rattle.lasso_lines.specs.Shares.{AreCodesOf}
use Rattle.lasso_lines.specs.Stream.{Grows, Stays}
use Rattle.lasso_lines.specs.declared.fault.RunFault.{RunFault}
use Rattle.lasso_lines.specs.declared.fault.RunFault.TheVariants.{WriteFailed}
use Rattle.lasso_lines.proofs.Known.{grows_as, stays_grows}
use Rattle.lasso_lines.proofs.Chosen.{chosen, chosen_marked, marked_chosen, distinct_chosen}

-- ---- lists of elements, each with a result

module _ {X Y : Type 0} (f : X → Option Y) where
  later_found : (x : X) (xs : List X) (y : Y) → (z : X) × Contains xs z × (f z ≡ Some y) → (z : X) × Contains (x ∷ xs) z × (f z ≡ Some y)
  later_found x xs y (z, there, is) = (z, (suc there.0, omega (arith, there.1), there.2), is)

  later_code : (x : X) (y : Y) (ys : List Y) → (z : Y) × Contains ys z × (f x ≡ Some z) → (z : Y) × Contains (y ∷ ys) z × (f x ≡ Some z)
  later_code x y ys (z, there, is) = (z, (suc there.0, omega (arith, there.1), there.2), is)

  -- each result is that of an element
  found_for : (xs : List X) (ys : List Y) (y : Y) → map f xs ≡ map Some ys → Contains ys y → (x : X) × Contains xs x × (f x ≡ Some y)
  found_for [] [] y e there = absurd (omega (arith, there.1))
  found_for [] (z ∷ ys) y e there = cc
  found_for (x ∷ xs) [] y e there = absurd (omega (arith, there.1))
  found_for (x ∷ xs) (z ∷ ys) y e (zero, small, is) = (x, (0, omega arith, refl), (let here : f x ≡ Some z = cc in here ∙ ap Some is))
  found_for (x ∷ xs) (z ∷ ys) y e (suc k, small, is) = later_found x xs y (found_for xs ys y (cc) (k, omega arith, is))

  -- and each element has a result
  pub each_found : (xs : List X) (ys : List Y) (x : X) → map f xs ≡ map Some ys → Contains xs x → (y : Y) × Contains ys y × (f x ≡ Some y)
  each_found [] ys x e there = absurd (omega (arith, there.1))
  each_found (z ∷ xs) [] x e there = cc
  each_found (z ∷ xs) (y ∷ ys) x e (zero, small, is) = (y, (0, omega arith, refl), (let here : f z ≡ Some y = cc in ap f (sym is) ∙ here))
  each_found (z ∷ xs) (y ∷ ys) x e (suc k, small, is) = later_code x y ys (each_found xs ys x (cc) (k, omega arith, is))

-- ---- the lines

module _ (list later lines : List Text) (codes : List ℕ) (begins : IsPrefix list later) (coded : AreCodesOf list lines codes) where
  are : AreCodes later coded.0 codes
  are = codes_past list later coded.0 codes begins coded.2

  -- a named text is a line
  named_line : (text : Text) → IsNamed later codes text → Contains lines text
  named_line text named =
      let found = found_for (position_of later) coded.0 codes named.0 are named.1 in
      let stands : slice_get later named.0 ≡ Some found.0 = position_here later found.0 named.0 found.2 in
      let told : slice_get later named.0 ≡ Some text = named.2 in
      let same : found.0 ≡ text = cc in
      (coded.1 text).0 (subst (λ t. Contains coded.0 t) same found.1)

  -- and each line is named
  line_named : (text : Text) → Contains lines text → IsNamed later codes text
  line_named text there =
      let found = each_found (position_of later) coded.0 codes text are ((coded.1 text).1 there) in
      (found.0, found.1, position_here later text found.0 found.2)

  -- so if some texts are exactly the named ones, they are exactly the lines
  named_are_lines : (texts : List Text) → ((text : Text) → Contains texts text ↔ IsNamed later codes text) → AreSameTexts texts lines
  named_are_lines texts named text = (λ there. named_line text ((named text).0 there), λ there. (named text).1 (line_named text there))

  -- the named texts in order are the lines in order
  pub writes_lines : (before mid after : Option (List ℕ)) (result : Result (Unit {0}) RunFault) → Stays before mid → OnOk result (Grows mid after (WritesNamed later codes)) → OnOk result (Grows before after (WritesOrdered lines))
  writes_lines before mid after (Ok x) stays grown =
      grows_as before after (WritesNamed later codes) (WritesOrdered lines) (stays_grows before mid after (WritesNamed later codes) stays grown) (λ part w. (w.0, w.1, named_are_lines w.0 w.2, w.3))
  writes_lines before mid after (Err fault) stays none = tt

  -- and a beginning of the named texts, before a failed write, is a beginning of the lines in order
  pub begins_lines : (before mid after : Option (List ℕ)) (result : Result (Unit {0}) RunFault) → Stays before mid → IfErr result (λ fault. fault ≡ WriteFailed → Grows mid after (BeginsNamed later codes)) → IfErr result (λ fault. fault ≡ WriteFailed → Grows before after (BeginsOrdered lines))
  begins_lines before mid after (Ok x) stays none = tt
  begins_lines before mid after (Err fault) stays begun = λ failed.
      grows_as before after (BeginsNamed later codes) (BeginsOrdered lines) (stays_grows before mid after (BeginsNamed later codes) stays (begun failed)) (λ part b some. (b.0, (b.1.0, b.1.1, named_are_lines b.1.0 b.1.2, b.1.3), b.2))

-- ---- what the marks choose

-- marks at the codes choose the texts that the codes name
pub chosen_named : (list : List Text) (codes : List ℕ) (marks : List Bool) → length marks ≡ length list → ((p : ℕ) → p < length list → (get_or marks p false ≡ true) ↔ Contains codes p) → IsDistinct list → AreNamed list codes (chosen marks list)
chosen_named list codes marks long marked apart = record {
  distinct = distinct_chosen marks list apart;
  each = λ text. (
    (λ there.
        let at = chosen_marked marks list text there in
        (at.0, (marked at.0 (slice_get_within list at.0 text at.2)).0 at.1, at.2)),
    (λ named. marked_chosen marks list text named.0 ((marked named.0 (slice_get_within list named.0 text named.2)).1 named.1) named.2),
  );
}

-- the texts taken by the marks, once none is left to take
pub taken_named : (list strings : List Text) (codes : List ℕ) (marks items : List Bool) (texts rest : List Text) (len : ℕ) → strings ≡ list → len ≡ length strings → length marks ≡ len → ((p : ℕ) → p < len → (get_or marks p false ≡ true) ↔ Contains codes p) → items ≡ marks → IsDistinct list → texts ++ rest ≡ chosen items strings → rest ≡ [] → AreNamed list codes texts
taken_named list strings codes marks items texts rest len is count long marked same apart whole none =
    let end : len ≡ length list = count ∙ ap length is in
    let here : chosen items strings ≡ chosen marks list = ap (λ ms. chosen ms strings) same ∙ ap (chosen marks) is in
    let all : chosen marks list ≡ texts = sym here ∙ sym whole ∙ ap (λ ts. texts ++ ts) none ∙ append-nil texts in
    subst (λ (ts : List Text). AreNamed list codes ts) all (chosen_named list codes marks (long ∙ end) (λ p small. marked p (omega (arith, end))) apart)
