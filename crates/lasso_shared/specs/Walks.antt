-- What a walk over an interner that threads share gives. A walk is the list of what is left: texts
-- (`threaded::Strings`), or texts after their keys (`threaded::Iter`). It has the list that its pass had seen
-- when it was made, and later texts are not in it.
use Rattle.std.specs.Prelude.{ℕ, List, Option, option_map}
use Rattle.std.specs.List.{enumerate_from, filter_map}
use Rattle.lasso_parts.specs.Texts.{Text}

-- the texts in order, each after the key of its position; the first text's position is n. A position without
-- a key gives none; the list of a legal history has no such position, so there it is the reply to `Iterate`
abbrev pub pairs_from : {K : Type 0} → (ℕ → Option K) → ℕ → List Text → List (K × Text)
pairs_from {K} key_at n texts = filter_map {Y = K × Text} (λ e. option_map (λ k. (k, e.1)) (key_at e.0)) (enumerate_from n texts)
