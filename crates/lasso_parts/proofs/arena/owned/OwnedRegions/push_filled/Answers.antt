use Rattle.std.proofs.Common.{ap, refl, true, length}
use Rattle.lasso_parts.proofs.Regions.{set_last}
use Rattle.lasso_parts.proofs.arena.owned.OwnedRegions.push_filled.Goals as goal

pub returns-clause-added : goal.returns-clause-added
returns-clause-added g c _ =
    let made = c.in_ok-push.ensures.added (refl {a = true}) in
    (made.0, set_last c.args.self.now _ _ made.0 c.args.text.now c.args.capacity _ (ap length c.as_slice-at.ensures) made.1 c.push_text.ensures.pushed)
