use Rattle.std.proofs.Common.{◌≤◌, sym, subst}
use Rattle.lasso_parts.proofs.IndexTables.{IsTable-replicate, room-replicate}
use Rattle.lasso_parts.proofs.index.Index.with_capacity.Goals as goal

pub invariant_of-result : goal.invariant_of-result
invariant_of-result g c = IsTable-replicate _ _ c.in-Some.ensures.count c.in_ok-slots.ensures

pub returns-clause-room : goal.returns-clause-room
returns-clause-room g c = subst (λ n. c.args.capacity ≤ n) (sym (room-replicate _ _ c.in_ok-slots.ensures)) c.in-Some.ensures.enough
