use Rattle.std.proofs.Common.{ap, ◌∙◌, subst}
use Rattle.lasso_parts.specs.Index.{home, IsFull}
use Rattle.lasso_parts.proofs.IndexSlots.{not_all_full, reach_below}
use Rattle.lasso_parts.proofs.index.probe.free_slot.Goals as goal

pub unreachable-requires : goal.unreachable-requires
unreachable-requires g c =
    not_all_full c.args.slots.now.slots c.home_slot-home.result c.requires (subst (λ n. IsFull c.args.slots.now.slots c.home_slot-home.result n) c.len-2.ensures c.in_default.ensures.full) c.in-None.ensures.full

pub returns-clause-reached : goal.returns-clause-reached
returns-clause-reached g c =
    reach_below c.args.slots.now.slots c.home_slot-home.result _ _ (c.home_slot-home.ensures.value ∙ ap (λ n. home n c.args.hash) c.len.ensures) c.in-Some-first_empty.ensures.found.1 (subst (λ n. IsFull c.args.slots.now.slots c.home_slot-home.result n) c.len-2.ensures c.in_default.ensures.full) c.in-Some-first_empty.ensures.found.3
