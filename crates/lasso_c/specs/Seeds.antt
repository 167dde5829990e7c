-- What a hasher of either kind begins with, what a write makes of it, and the hash that it ends with.
use Rattle.std.specs.Prelude.{◌≡◌, ℕ, List}
use Rattle.core.specs.Hash.DefaultHasher as keyed_hasher
use Rattle.lasso_parts.specs.TextHash as text_hasher
use Rattle.lasso_c.specs.declared.seed.Seed.{Seed}
use Rattle.lasso_c.specs.declared.seed.Seed.TheVariants as seed
use Rattle.lasso_c.specs.declared.seed.SeededHasher.{SeededHasher}
use Rattle.lasso_c.specs.declared.seed.SeededHasher.TheVariants as hasher

-- the seed of two numbers, for the fast hash
abbrev pub text_seed : ℕ → ℕ → Seed
text_seed seed0 seed1 = seed.Text (text_hasher.seeded seed0 seed1)

-- the fixed seed
abbrev pub IsFixed : Seed → Type 0
IsFixed it = it ≡ text_seed 0 0

-- the seed of two keys, for SipHash
abbrev pub keyed_seed : ℕ → ℕ → Seed
keyed_seed key0 key1 = seed.Keyed (keyed_hasher.with_keys key0 key1)

-- the hasher that a seed starts
abbrev pub started : Seed → SeededHasher
started (seed.Text state) = hasher.Text (text_hasher.started state)
started (seed.Keyed keyed) = hasher.Keyed keyed

-- the hasher after one write
abbrev pub written : SeededHasher → List ℕ → SeededHasher
written (hasher.Text text) bytes = hasher.Text (text_hasher.written text bytes)
written (hasher.Keyed keyed) bytes = hasher.Keyed (keyed_hasher.write keyed bytes)

-- the hash that it ends with
abbrev pub finished : SeededHasher → ℕ
finished (hasher.Text text) = text_hasher.finished text
finished (hasher.Keyed keyed) = keyed_hasher.finish keyed
