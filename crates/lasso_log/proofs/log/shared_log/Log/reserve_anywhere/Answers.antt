-- The newest bucket had no room: the others are tried after it.
use Rattle.std.proofs.Common.{◌∙◌}
use Rattle.lasso_log.proofs.Reserved.{none_after, reserved_after}
use Rattle.lasso_log.proofs.log.shared_log.Log.reserve_anywhere.Goals as goal

pub returns-clause-same : goal.returns-clause-same
returns-clause-same g c =
    let first = c.reserve_in.ensures.same in let then = c.reserve_older.ensures.same in
    (then.0 ∙ first.0, then.1 ∙ first.1)

pub returns-clause-event : goal.returns-clause-event
returns-clause-event g c =
    reserved_after c.reserve_older.result c.args.self.now c.args.pass.now.number c.reserve_in.new.pass.number c.args.pass.now.notes c.reserve_in.new.pass.notes c.reserve_older.new.pass.notes c.args.bytes c.reserve_in.ensures.same.0 c.in_default.ensures.none c.reserve_older.ensures.event

pub returns-clause-none : goal.returns-clause-none
returns-clause-none g c =
    none_after c.reserve_older.result c.args.pass.now.number c.reserve_in.new.pass.number c.args.pass.now.notes c.reserve_in.new.pass.notes c.reserve_older.new.pass.notes c.reserve_in.ensures.same.0 c.in_default.ensures.none c.reserve_older.ensures.none
