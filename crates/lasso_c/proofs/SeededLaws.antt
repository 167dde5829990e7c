-- The laws of the type of interner that a handle holds, and that it may cross threads.
use denote.Param.Laws.{Laws}
use denote.Param.Send.{IsSend}
use Rattle.lasso_c.specs.contracts.seed.Seed as Seed
use Rattle.lasso_c.specs.contracts.seed.SeededHasher as Hasher
use Rattle.lasso_c.specs.contracts.seed.SeedBuildHasher.TheImpl as builds
use Rattle.lasso_c.specs.contracts.seed.SeededHasherHasher.TheImpl as hashes
use Rattle.lasso_c.specs.Seeded.{the_row}
use Rattle.lasso_c.proofs.seed.Seed.TheLaws as seed
use Rattle.lasso_c.proofs.seed.SeededHasher.TheLaws as hasher
use Rattle.lasso_c.proofs.seeded.Interner.TheLaws as interner
use Rattle.lasso_c.proofs.seed.Seed.TheSendSync as seed_sent
use Rattle.lasso_c.proofs.seeded.Interner.TheSendSync as interner_sent

abbrev pub the_row_laws : Laws the_row
the_row_laws = interner.the_row_laws Seed.the_row Hasher.the_row builds.ghosts hashes.ghosts seed.the_row_laws hasher.the_row_laws

pub the_send : IsSend the_row
the_send = interner_sent.the_send Seed.the_row Hasher.the_row builds.ghosts hashes.ghosts seed_sent.the_send
