use Rattle.std.proofs.Common.{◌≡◌, [], ◌∷◌, inl, refl}
use Rattle.lasso_log.specs.Charges.{next_size}
use Rattle.lasso_log.specs.History.{Reserve}
use Rattle.lasso_log.proofs.Reserved.{none_longer}
use Rattle.lasso_shared.proofs.Now.{charged_if, none_if, refused_if}
use Rattle.lasso_shared.proofs.shards.Shards.reserve_or_charge_now.Goals as goal

pub returns-in-Some-clause-event : goal.returns-in-Some-clause-event
returns-in-Some-clause-event g c =
    let taken = rw c.in-Some.is at c.in_ok-range.ensures.event in
    (Reserve taken.0.position c.args.bytes ∷ [], inl (taken.0.position, refl), taken.3.event)

pub returns-in-Some-clause-range : goal.returns-in-Some-clause-range
returns-in-Some-clause-range g c = rw c.in-Some.is at c.in_ok-range.ensures.range

pub returns-clause-event : goal.returns-clause-event
returns-clause-event g c =
    charged_if c.args.pass.now.number c.reserve_now.new.pass.number c.args.pass.now.notes c.reserve_now.new.pass.notes c.charge_now.new.pass.notes c.args.bytes (next_size c.args.tally.now.spine.turns c.args.bytes) c.charge_now.result
    c.reserve_now.ensures.same.0 (rw c.in_default.is at c.in_ok-range.ensures.none) c.charge_now.ensures.event

pub returns-clause-refused : goal.returns-clause-refused
returns-clause-refused g c =
    let none = rw c.in_default.is at c.in_ok-range.ensures.none in
    refused_if c.args.self.now.log c.args.tally.now.spine.notes c.args.pass.now.notes c.reserve_now.new.pass.notes c.charge_now.new.pass.notes c.args.bytes c.charge_now.result (none.rest, none.begins) c.charge_now.ensures.refused

pub returns-clause-err : goal.returns-clause-err
returns-clause-err g c =
    none_if (c.charge_now.new.spine ≡ c.args.tally.now.spine) c.args.pass.now.number c.reserve_now.new.pass.number c.args.pass.now.notes c.reserve_now.new.pass.notes c.charge_now.new.pass.notes c.charge_now.result c.reserve_now.ensures.same.0 (rw c.in_default.is at c.in_ok-range.ensures.none) c.charge_now.ensures.err

pub returns-clause-busy : goal.returns-clause-busy
returns-clause-busy g c = λ none.
    none_longer c.args.pass.now.number c.reserve_now.new.pass.number c.args.pass.now.notes c.reserve_now.new.pass.notes c.charge_now.new.pass.notes c.reserve_now.ensures.same.0 (rw c.in_default.is at c.in_ok-range.ensures.none) (c.charge_now.ensures.busy none).0
