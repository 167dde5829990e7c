use Rattle.std.proofs.Common.{map, true, false, refl, arith}
use Rattle.lasso_single.proofs.Differ.{is_test}
use Rattle.lasso_single.proofs.Distinct.{distinct_none, distinct_more, distinct_all, not_distinct}
use Rattle.lasso_single.proofs.keyword_lists.are_distinct.Goals as goal

pub loop-i-init : goal.loop-i-init
loop-i-init c = distinct_none

pub loop-i-preserved : goal.loop-i-preserved
loop-i-preserved c =
    distinct_more c.args.keywords.now c.loop-i.i _ c.is_among.result c.loop-i-test.true c.loop-i.invariant c.is_among.ensures c.if-is_among.false

pub returns-then-is_among-clause-distinct : goal.returns-then-is_among-clause-distinct
returns-then-is_among-clause-distinct c =
    (λ e. cc, λ distinct. absurd (not_distinct c.args.keywords.now c.loop-i.i _ c.is_among.result c.loop-i-test.true distinct c.is_among.ensures c.if-is_among.true))

pub returns-then-is_among-clause-value : goal.returns-then-is_among-clause-value
returns-then-is_among-clause-value c =
    is_test false (map (λ t. t.now) c.args.keywords.now) (λ e. cc) (λ distinct. absurd (not_distinct c.args.keywords.now c.loop-i.i _ c.is_among.result c.loop-i-test.true distinct c.is_among.ensures c.if-is_among.true))

pub returns-clause-value : goal.returns-clause-value
returns-clause-value c =
    is_test true (map (λ t. t.now) c.args.keywords.now) (λ e. distinct_all c.args.keywords.now c.loop-i.i (omega (arith, c.loop-i-test.false)) c.loop-i.invariant) (λ distinct. refl)
