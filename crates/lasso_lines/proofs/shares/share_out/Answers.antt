use Rattle.std.proofs.Common.{◌∙◌}
use Rattle.lasso_lines.proofs.shares.share_out.Goals as goal

-- the pass of the second run is that of the first, and so of the same interner
pub returns-then-is_no_memory-clause-same : goal.returns-then-is_no_memory-clause-same
returns-then-is_no_memory-clause-same g c =
    let first = c.share_once-outcome.ensures.same in
    let second = c.share_once.ensures.same in
    (second.0 ∙ first.0, second.1 ∙ first.1)
