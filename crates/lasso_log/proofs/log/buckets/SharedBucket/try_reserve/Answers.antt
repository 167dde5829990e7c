-- A try comes after others that added no event.
use Rattle.std.proofs.Common.{[]}
use Rattle.lasso_log.specs.History.{Reserve}
use Rattle.lasso_log.proofs.Reserved.{none_after, taken_after}
use Rattle.lasso_log.proofs.log.buckets.SharedBucket.try_reserve.Goals as goal

pub returns-in-Some-try_reserve_now-clause-event : goal.returns-in-Some-try_reserve_now-clause-event
returns-in-Some-try_reserve_now-clause-event g c =
    let i = c.loop.invariant in let found = c.in-Some-try_reserve_now in
    taken_after found.found c.args.pass.now.number c.loop.pass.number c.args.pass.now.notes c.loop.pass.notes c.try_reserve_now.new.pass.notes (Reserve c.args.self.now.position c.args.bytes) i.2.0 i.3 found.ensures.event

pub returns-in-Some-try_reserve_now-clause-none : goal.returns-in-Some-try_reserve_now-clause-none
returns-in-Some-try_reserve_now-clause-none g c =
    let i = c.loop.invariant in let found = c.in-Some-try_reserve_now in
    none_after found.found c.args.pass.now.number c.loop.pass.number c.args.pass.now.notes c.loop.pass.notes c.try_reserve_now.new.pass.notes i.2.0 i.3 found.ensures.none
