-- A try comes after others that added no event.
use Rattle.std.proofs.Common.{refl, ◌∙◌}
use Rattle.lasso_shared.proofs.Stored.{none_later, stores_later, unstored_later}
use Rattle.lasso_shared.proofs.Whole.{since_both}
use Rattle.lasso_shared.proofs.shards.Shards.store_with_spine.Goals as goal

pub returns-in-Some-store_with_spine_now-clause-event : goal.returns-in-Some-store_with_spine_now-clause-event
returns-in-Some-store_with_spine_now-clause-event g c =
    let i = c.loop.invariant in
    stores_later c.args.pass.now.number c.loop.pass.number c.args.pass.now.notes c.loop.pass.notes c.store_with_spine_now.new.pass.notes c.args.text.now c.in-Some-store_with_spine_now.reply i.2.0 i.3 c.in-Some-store_with_spine_now.ensures.event

pub returns-in-Some-store_with_spine_now-clause-refused : goal.returns-in-Some-store_with_spine_now-clause-refused
returns-in-Some-store_with_spine_now-clause-refused g c =
    let i = c.loop.invariant in
    unstored_later c.args.self.now.log c.args.tally.now.spine.notes c.loop.tally.spine.notes c.args.pass.now.notes c.loop.pass.notes c.store_with_spine_now.new.pass.notes c.args.text.now c.in-Some-store_with_spine_now.reply i.4.1 (i.3.rest, i.3.begins) c.in-Some-store_with_spine_now.ensures.refused

pub returns-in-Some-store_with_spine_now-clause-err : goal.returns-in-Some-store_with_spine_now-clause-err
returns-in-Some-store_with_spine_now-clause-err g c =
    let i = c.loop.invariant in
    none_later c.args.pass.now.number c.loop.pass.number c.args.pass.now.notes c.loop.pass.notes c.store_with_spine_now.new.pass.notes c.in-Some-store_with_spine_now.reply i.2.0 i.3 c.in-Some-store_with_spine_now.ensures.err

pub loop-preserved : goal.loop-preserved
loop-preserved g c =
    let i = c.loop.invariant in
    let e = c.store_with_spine_now.ensures in
    let none = since_both c.args.pass.now.number c.loop.pass.number c.args.pass.now.notes c.loop.pass.notes c.store_with_spine_now.new.pass.notes i.2.0 i.3 (c.in_default.ensures.busy refl) in
    (tt, tt, (e.same.0 ∙ i.2.0, e.same.1 ∙ i.2.1), none, (e.tally.0.0 ∙ i.4.0, e.tally.0.1 ∙ i.4.1), e.tally.1 ∙ i.5)
