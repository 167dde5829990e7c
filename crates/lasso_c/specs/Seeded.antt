-- The interner that a handle holds.
use Rattle.std.specs.Borrow.{RattleType}
use Rattle.lasso_c.specs.declared.seed.Seed.{Seed}
use Rattle.lasso_c.specs.declared.seed.SeededHasher.{SeededHasher}
use Rattle.lasso_c.specs.declared.seeded.Interner as seeded
use Rattle.lasso_c.specs.contracts.seed.Seed as seed
use Rattle.lasso_c.specs.contracts.seed.SeededHasher as hasher
use Rattle.lasso_c.specs.contracts.seed.SeedBuildHasher.TheImpl as builds
use Rattle.lasso_c.specs.contracts.seed.SeededHasherHasher.TheImpl as hashes
use Rattle.lasso_c.specs.contracts.seeded.Interner as interner

-- an interner whose hashers begin with a `Seed`
abbrev pub Interner : Type 0
Interner = seeded.Interner Seed SeededHasher

-- its type, as the logic holds it
abbrev pub the_row : RattleType
the_row = interner.the_row seed.the_row hasher.the_row builds.ghosts hashes.ghosts
