-- A bucket has room after those before it had none.
use Rattle.std.proofs.Common.{◌∙◌}
use Rattle.lasso_log.proofs.Reserved.{none_longer, reserved_later}
use Rattle.lasso_log.proofs.log.shared_log.Log.reserve_older.Goals as goal

pub returns-in-Some-clause-event : goal.returns-in-Some-clause-event
returns-in-Some-clause-event g c =
    let i = c.loop-number.invariant in
    reserved_later c.args.self.now c.args.pass.now.number c.loop-number.pass.number c.args.pass.now.notes c.loop-number.pass.notes c.reserve_in.new.pass.notes c.in-Some.range c.args.bytes i.0.0 i.1 c.in-Some.ensures.event

pub loop-number-preserved : goal.loop-number-preserved
loop-number-preserved g c =
    let i = c.loop-number.invariant in
    let same = c.reserve_in.ensures.same in (
      (same.0 ∙ i.0.0, same.1 ∙ i.0.1),
      none_longer c.args.pass.now.number c.loop-number.pass.number c.args.pass.now.notes c.loop-number.pass.notes c.reserve_in.new.pass.notes i.0.0 i.1 c.in_default.ensures.none,
    )
