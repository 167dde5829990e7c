use Rattle.std.proofs.Common.{subst, arith}
use Rattle.lasso_parts.specs.Index.{IsFull}
use Rattle.lasso_parts.proofs.IndexSlots.{not_all_full}
use Rattle.lasso_parts.proofs.index.Index.search.Goals as goal

-- some slot is empty, so one of the two walks ended
pub unreachable-requires : goal.unreachable-requires
unreachable-requires g c =
    let xs = c.self.inside.slots.slots in
    not_all_full xs c.home_slot-home.result (omega (arith, c.self.invariant.load, c.if-count-eq0.false, c.len-count.ensures)) (subst (λ n. IsFull xs c.home_slot-home.result n) c.len-count.ensures c.in-Passed.ensures.0) c.in-Passed-scan_slots.ensures.0
