use Rattle.lasso_single.proofs.Copied.{taken_at}
use Rattle.lasso_single.proofs.rodeo.Rodeo.clone_over.Goals as goal

pub copy_all-requires-clause-taken : goal.copy_all-requires-clause-taken
copy_all-requires-clause-taken g c = taken_at g.K.Key.key_at c.args.source.now.texts c.len-len.ensures.distinct c.len-len.ensures.fits
