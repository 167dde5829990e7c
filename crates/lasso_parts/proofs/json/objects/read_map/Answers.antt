-- The fault of the first member is that of the whole, and where it has a position, reading takes memory. A map's keys
-- are in order.
use Rattle.std.proofs.Common.{inl, inr, refl, sym, ◌∙◌}
use Rattle.std.proofs.lemmas.Result.{err_from_is_err_and}
use Rattle.serde_json.specs.View.{view}
use Rattle.lasso_parts.proofs.JsonMembers.{first_fault, first_position, object_in_order, whole_object}
use Rattle.lasso_parts.proofs.json.objects.read_map.Goals as goal

pub returns-in_default-first_key_value-clause-order :
    goal.returns-in_default-first_key_value-clause-order
returns-in_default-first_key_value-clause-order g c =
    object_in_order (view c.args.value.now) c.in-Some.members.now.entries c.in-Some.ensures c.len-count.ensures.ordered

pub returns-in_err-_position-clause-read : goal.returns-in_err-_position-clause-read
returns-in_err-_position-clause-read g c =
    let p = err_from_is_err_and c.from_residual.result c.from_residual.ensures.1 in
    rw (p.1, p.2) (inl (first_fault g.K.Key.key_at (view c.args.value.now) c.in-Some.members.now.entries _ c.len-count.result c.in_err-_position.field-0.0 c.in-Some.ensures c.in-Some-first_key_value.ensures.first c.len-count.ensures.len c.in_err-_position.ensures))

pub returns-in_err-_position-clause-order : goal.returns-in_err-_position-clause-order
returns-in_err-_position-clause-order g c =
    object_in_order (view c.args.value.now) c.in-Some.members.now.entries c.in-Some.ensures c.len-count.ensures.ordered

pub returns-in_err-clone-clause-read : goal.returns-in_err-clone-clause-read
returns-in_err-clone-clause-read g c =
    let p = err_from_is_err_and c.from_residual-in_err-clone.result c.from_residual-in_err-clone.ensures.1 in
    let takes = first_position g.K.Key.key_at (view c.args.value.now) c.in-Some.members.now.entries _ c.len-count.result c.in_ok-_position._position c.in-Some.ensures c.in-Some-first_key_value.ensures.first c.len-count.ensures.len c.in_ok-_position.ensures in
    rw (p.1, p.2) (inr (refl, takes))

pub returns-in_err-clone-clause-order : goal.returns-in_err-clone-clause-order
returns-in_err-clone-clause-order g c =
    object_in_order (view c.args.value.now) c.in-Some.members.now.entries c.in-Some.ensures c.len-count.ensures.ordered

pub returns-clause-read : goal.returns-clause-read
returns-clause-read g c =
    let whole = whole_object g.K.Key.key_at (view c.args.value.now) c.in-Some.members.now.entries c.in-Some.ensures in
    let takes = first_position g.K.Key.key_at (view c.args.value.now) c.in-Some.members.now.entries _ c.len-count.result c.in_ok-_position._position c.in-Some.ensures c.in-Some-first_key_value.ensures.first c.len-count.ensures.len c.in_ok-_position.ensures in
    elim c.read_members.ensures [ inl read ↦ inl (read ∙ sym whole) | inr memory ↦ inr (memory, takes) ]

pub returns-clause-order : goal.returns-clause-order
returns-clause-order g c =
    object_in_order (view c.args.value.now) c.in-Some.members.now.entries c.in-Some.ensures c.len-count.ensures.ordered
