use Rattle.std.proofs.Common.{◌<◌, length, ◌∙◌, arith}
use Rattle.std.proofs.lemmas.List.{length-set}
use Rattle.lasso_parts.specs.Hashing.{hash_by}
use Rattle.lasso_parts.proofs.HashesAhead.{hashed_more}
use Rattle.lasso_parts.proofs.index.hashes_ahead.HashesAhead.look_from.Goals as goal

pub loop-place-preserved : goal.loop-place-preserved
loop-place-preserved g c =
    let at = c.loop-place in
    let i = at.invariant in
    let inside : at.place < length at.self.each = omega (arith, c.loop-place-test.true, i.all, i.most) in
    record {
      all = length-set at.self.each at.place c.hash_text.result ∙ i.all;
      few = omega (arith, c.loop-place-test.true);
      most = i.most;
      hashed = hashed_more _ _ _ _ (λ t. t.now) (hash_by g.S.BuildHasher g.S.Hasher.Hasher c.args.hasher.now) c.texts_from-there.result _ _ at.self.each c.hash_text.result (omega (arith, c.loop-place-test.true, i.most, c.texts_from-there.ensures.all)) inside c.loop-place-test.true c.hash_text.ensures c.texts_from-there.ensures.texts i.hashed;
    }
