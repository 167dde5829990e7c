use Rattle.std.proofs.Common.{ℕ, List, take, drop, subst}
use Rattle.lasso_input.specs.Lines.{NoFeed}
use Rattle.lasso_columns.specs.Streams.{EndsLine}
use Rattle.lasso_columns.proofs.StreamLines.{cut_ended}
use Rattle.lasso_columns.proofs.reading_blocks.cut_last_line.Goals as goal

pub returns : goal.returns
returns c =
    let count = c.ended_len-count.result in
    rw (c.truncate.ensures.items)
    (cut_ended c.args.block.now.items count (subst (λ (bs : List ℕ). EndsLine (take count bs)) c.deref.ensures.value c.ended_len-count.ensures.ended)
    (subst (λ (bs : List ℕ). NoFeed (drop count bs)) c.deref.ensures.value c.ended_len-count.ensures.begun))
