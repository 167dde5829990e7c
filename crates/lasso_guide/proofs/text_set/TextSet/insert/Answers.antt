use Rattle.lasso.specs.Hashing.{hash_by}
use Rattle.lasso_guide.proofs.TextSets.{inserted}
use Rattle.lasso_guide.proofs.text_set.TextSet.insert.Goals as goal

pub returns-in-Err-clause-inserted : goal.returns-in-Err-clause-inserted
returns-in-Err-clause-inserted g c =
    let i = c.self.inside in
    rw (← c.self.view_is) (inserted (hash_by g.S.BuildHasher g.S.Hasher.Hasher i.hasher) i.texts c.append.new.texts c.args.text.now c.append.result c.append.new.index c.append.ensures.whole.0 (c.in-Err.ensures.whole c.self.invariant.0) c.append.ensures.appended)
