use Rattle.std.proofs.Common.{drop, arith}
use Rattle.lasso_c.proofs.BatchSteps.{get_from, bytes_left}
use Rattle.lasso_c.proofs.batches.sizes_from.Goals as goal

pub loop-at-preserved : goal.loop-at-preserved
loop-at-preserved g c =
    let texts = c.args.dictionary.now.texts in
    let text = c.text_at_code-text.result.now in
    let left = bytes_left (drop c.args.from texts) c.loop-at.at text (get_from texts c.args.from c.loop-at.at text c.text_at_code-text.ensures) in
    (omega (arith, left, c.loop-at.invariant.0), omega (arith, c.loop-at.invariant.1))

pub returns-then-text-GREATEST-clause-large : goal.returns-then-text-GREATEST-clause-large
returns-then-text-GREATEST-clause-large g c =
    let texts = c.args.dictionary.now.texts in
    let text = c.text_at_code-text.result.now in
    let left = bytes_left (drop c.args.from texts) c.loop-at.at text (get_from texts c.args.from c.loop-at.at text c.text_at_code-text.ensures) in
    λ none. omega (arith, left, c.loop-at.invariant.0, c.loop-at.invariant.1)
