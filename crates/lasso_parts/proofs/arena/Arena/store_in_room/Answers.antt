-- Texts that were stored stay where they are: the current region gets more bytes.
use Rattle.std.proofs.Common.{◌<◌, List, length, ap, subst}
use Rattle.lasso_parts.specs.Arena.{Regions}
use Rattle.lasso_parts.specs.Bucket.{Extent}
use Rattle.lasso_parts.proofs.Regions.{kept_set}
use Rattle.lasso_parts.proofs.arena.Arena.store_in_room.Goals as goal

pub returns-clause-kept : goal.returns-clause-kept
returns-clause-kept g c =
    let a = c.args.self.now in
    let inside = subst (λ (v : Regions). v.current < length v.all) c.self.view_is c.self.invariant.1.order.current in
    kept_set a.all c.store_in_current.new.self.all a.current c.args.text.now inside (ap (λ (v : Regions). v.all) c.store_in_current.ensures.text)
