-- Sorted pairs of a front and a text.
--
-- Sorting only moves the pairs. So the texts are still those that the codes name, and none comes twice.
-- Since the pairs are sorted, the texts ascend.
use Rattle.std.proofs.Common.{ℕ, ◌≡◌, List, map, Bor}
use Rattle.std.specs.Prelude.{All, Contains, ◌↔◌, IsPermutation, IsSorted}
use Rattle.std.specs.Str.{bytes_eq}
use Rattle.std.specs.Cmp.Lexicographic.{nat_list_eq_equiv}
use Rattle.std.proofs.lemmas.List.Sorted.{All-permutation, Contains-permutation, IsPermutation-map, IsPermutation-sym}
use Rattle.std.proofs.lemmas.Map.Keys.{IsDistinct-IsPermutation}
use Rattle.lasso_parts.specs.Texts.{Text, IsDistinct}
use Rattle.lasso_lines.specs.Fronts.{IsFronted, fronted_cmp}
use Rattle.lasso_lines.specs.Ordered.{told, IsNamed, AreNamed, WritesNamed}
use Rattle.lasso_lines.proofs.Sorted.{ascending}

module _ (list : List Text) (codes : List ℕ) (pairs sorted : List (ℕ × Bor Text)) (moved : IsPermutation pairs sorted) (order : IsSorted fronted_cmp sorted) (fronted : All IsFronted pairs) (named : AreNamed list codes (map (λ p. p.1.now) pairs)) where
  texts_moved : IsPermutation (map (λ (p : ℕ × Bor Text). p.1.now) pairs) (map (λ (p : ℕ × Bor Text). p.1.now) sorted)
  texts_moved = IsPermutation-map (λ (p : ℕ × Bor Text). p.1.now) pairs sorted moved

  apart : IsDistinct (map (λ (p : ℕ × Bor Text). p.1.now) sorted)
  apart = IsDistinct-IsPermutation bytes_eq nat_list_eq_equiv.symm _ _ texts_moved named.distinct

  each : (text : Text) → Contains (map (λ (p : ℕ × Bor Text). p.1.now) sorted) text ↔ IsNamed list codes text
  each text = (
    λ there. (named.each text).0 (Contains-permutation _ _ text (IsPermutation-sym _ _ texts_moved) there),
    λ is. Contains-permutation _ _ text texts_moved ((named.each text).1 is),
  )

  pub writes_named : (part : List ℕ) → part ≡ told (map (λ p. p.1.now) sorted) → WritesNamed list codes part
  writes_named part is = (map (λ (p : ℕ × Bor Text). p.1.now) sorted, ascending sorted order (All-permutation IsFronted pairs sorted moved fronted) apart, each, is)
