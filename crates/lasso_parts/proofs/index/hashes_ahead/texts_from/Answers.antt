use Rattle.std.proofs.Common.{◌<◌, length, ◌∙◌, arith}
use Rattle.std.proofs.lemmas.List.{length-set}
use Rattle.lasso_parts.proofs.HashesAhead.{found_more}
use Rattle.lasso_parts.proofs.index.hashes_ahead.texts_from.Goals as goal

pub loop-place-preserved : goal.loop-place-preserved
loop-place-preserved g c =
    let at = c.loop-place in
    let i = at.invariant in
    let inside : at.place < length at.found = omega (arith, c.loop-place-test.true, i.all, c.requires.few) in
    record {
      all = length-set at.found at.place c.text_of.result ∙ i.all;
      few = omega (arith, c.loop-place-test.true);
      found = found_more _ _ _ _ _ at.found c.text_of.result inside c.text_of.ensures i.found;
    }
