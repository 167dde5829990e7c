use Rattle.std.proofs.Common.{◌<◌, length, ◌∙◌, arith}
use Rattle.std.proofs.lemmas.List.{length-set}
use Rattle.lasso_parts.specs.Hashing.{hash_by}
use Rattle.lasso_single.proofs.Hashes.{hashed_next}
use Rattle.lasso_single.proofs.rodeo.guessing.hash_all.Goals as goal

pub loop-i-preserved : goal.loop-i-preserved
loop-i-preserved g c =
    let at = c.loop-i in
    let inside : at.i < length at.hashes = omega (arith, c.loop-i-test.true, at.invariant.all, c.requires.few) in
    record {
      all = length-set at.hashes at.i c.hash_text.result ∙ at.invariant.all;
      hashed = hashed_next (hash_by g.S.BuildHasher g.S.Hasher.Hasher c.args.hasher.now) c.args.texts.now at.i _ at.hashes c.hash_text.result inside c.loop-i-test.true c.hash_text.ensures at.invariant.hashed;
    }
