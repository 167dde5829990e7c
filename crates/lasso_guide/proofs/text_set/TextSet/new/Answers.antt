use Rattle.lasso.specs.Hashing.{hash_by}
use Rattle.lasso_guide.proofs.TextSets.{set_empty}
use Rattle.lasso_guide.proofs.text_set.TextSet.new.Goals as goal

pub invariant_of-result : goal.invariant_of-result
invariant_of-result g c =
    set_empty (hash_by g.S.BuildHasher g.S.Hasher.Hasher c.args.hasher) g.K.Key.key_at c.in_ok-new.field-0 c.new-2.result c.in_ok-new.ensures.empty c.new-2.ensures.empty
