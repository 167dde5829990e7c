use Rattle.std.proofs.Common.{drop, arith}
use Rattle.lasso_columns.proofs.Written.{count_more, ends_past, text_from}
use Rattle.lasso_columns.proofs.writing.total_bytes.Goals as goal

pub returns-then-len-most-clause-fault : goal.returns-then-len-most-clause-fault
returns-then-len-most-clause-fault g c =
    ends_past c.args.most (g.D.Texts.list c.args.dictionary.now) c.args.from c.loop-at.at c.text_at-len.result.now c.text_at-len.ensures
    (omega (arith, c.loop-at.invariant.0, c.loop-at.invariant.1)) (omega (arith, c.loop-at.invariant.0, c.loop-at.invariant.1, c.if-len-most.true))

pub loop-at-preserved : goal.loop-at-preserved
loop-at-preserved g c =
    let list = g.D.Texts.list c.args.dictionary.now in
    let more = count_more (drop c.args.from list) c.loop-at.at c.text_at-len.result.now (text_from list c.args.from c.loop-at.at c.text_at-len.result.now c.text_at-len.ensures) in
    (omega (arith, more, c.loop-at.invariant.0), omega (arith, c.loop-at.invariant.1, c.if-len-most.false))
