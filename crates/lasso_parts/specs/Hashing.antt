-- The hash that a hasher gives a text.
use Rattle.std.specs.Prelude.{ℕ, ◌≡◌, true, List, fold, ◌∷◌, [], bytes_eq}
use Rattle.std.proofs.Common.{ap}
use Rattle.std.proofs.lemmas.Slice.Eq.{bytes_eq-Decides}
use Rattle.std.specs.declared.hash.BuildHasher as builds
use Rattle.std.specs.declared.hash.Hasher as hashes
use Rattle.lasso_parts.specs.Texts.{Text}

-- what `hash_one` gives, by the members of the hasher's two traits: how it is built, what a write does to it,
-- and what it returns at the end
abbrev pub hash_by : {B H : Type 0} → builds.Ghosts B H → hashes.Ghosts H → B → Text → ℕ
hash_by builder state hasher text = state.finish (fold state.write (builder.build_hasher hasher) (text ∷ []))

-- equal texts are fed to a hasher alike, each by one write
pub fed_alike : (a b : Text) → bytes_eq a b ≡ true → a ∷ [] ≡ b ∷ []
fed_alike a b same = ap (λ (t : Text). t ∷ []) ((bytes_eq-Decides a b).0 same)
