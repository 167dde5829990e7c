-- Equality of lists of texts, as comparisons of interners compute it.
--
-- Contracts see a reader and a resolver as the list of their texts. A reader's list is distinct and fits the
-- keys; a resolver's fits the keys, and may hold a text twice.
use Rattle.std.specs.Prelude.{Bool, List, bytes_eq}
use Rattle.std.specs.Cmp.{IsEquivalence}
use Rattle.std.specs.Cmp.Lexicographic.{pointwise, lists_equiv, nat_list_eq_equiv}
use Rattle.lasso_parts.specs.Texts.{Text}

-- the same texts in the same order: what `==` computes, which is true exactly if the two lists are equal
abbrev pub texts_eq : List Text → List Text → Bool
texts_eq = pointwise bytes_eq

-- its laws
pub texts_equivalence : IsEquivalence texts_eq
texts_equivalence = lists_equiv nat_list_eq_equiv
