use Rattle.std.proofs.Common.{◌+◌, ◌≤◌, sym, subst, arith}
use Rattle.lasso_log.specs.LentBuckets.{LentBucket}
use Rattle.lasso_log.specs.Views.{SpineView, TurnsView}
use Rattle.lasso_log.proofs.log.shared_log.Log.charge_with.Goals as goal

pub overflow_add-usage : goal.overflow_add-usage
overflow_add-usage g c =
    let t = c.turns.inside in
    let within : t.usage + c.bucket.inside.size ≤ t.limit = subst (λ (y : TurnsView). y.usage + c.bucket.inside.size ≤ y.limit) (sym c.turns.view_is)
    (subst (λ (s : SpineView). s.turns.usage + c.bucket.inside.size ≤ s.turns.limit) (sym c.spine.view_is) (subst (λ (x : LentBucket). c.args.spine.now.turns.usage + x.size ≤ c.args.spine.now.turns.limit) (sym c.bucket.view_is) c.requires.within)) in
    omega (arith, within, c.turns.invariant.2)
