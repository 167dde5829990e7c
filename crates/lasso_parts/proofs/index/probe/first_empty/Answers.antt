use Rattle.std.proofs.Common.{ℕ, List, get_or, ap, ◌∙◌, arith}
use Rattle.lasso_parts.proofs.IndexSlots.{IsFull-more}
use Rattle.lasso_parts.proofs.index.probe.first_empty.Goals as goal

pub loop-j-preserved : goal.loop-j-preserved
loop-j-preserved g c = IsFull-more _ _ _ c.loop-j.invariant (c.fingerprints-fingerprints.ensures.filled c.loop-j.j (omega (arith, c.requires, c.loop-j-test.true)) (λ z. c.if-fingerprints-j-eq0.false (ap (λ (ts : List ℕ). get_or ts c.loop-j.j 0) c.fingerprints-fingerprints.ensures.value ∙ z)))
