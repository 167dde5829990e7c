use Rattle.std.proofs.Common.{◌≡◌, ◌+◌, length, arith}
use Rattle.lasso_parts.proofs.Walks.{past_all, left_behind}
use Rattle.lasso_parts.proofs.iter.Iter.nth.Goals as goal

pub returns-in_err-text-clause-rest : goal.returns-in_err-text-clause-rest
returns-in_err-text-clause-rest g c = past_all c.args.n c.self.inside.first c.self.inside.strings c.nth.new.self c.args.self.now c.self.view_is c.in_err-text.ensures.text c.in_err-text.ensures.rest

pub overflow_add-number : goal.overflow_add-number
overflow_add-number g c = omega (arith, left_behind c.args.n c.self.inside.strings c.nth.new.self c.in_ok-text.text.now c.in_ok-text.ensures.text c.in_ok-text.ensures.rest)

pub overflow_add-self : goal.overflow_add-self
overflow_add-self g c = omega (arith, left_behind c.args.n c.self.inside.strings c.nth.new.self c.in_ok-text.text.now c.in_ok-text.ensures.text c.in_ok-text.ensures.rest)

pub key_of-requires : goal.key_of-requires
key_of-requires g c = c.self.invariant.1 (c.self.inside.first + c.args.n) (omega (arith, left_behind c.args.n c.self.inside.strings c.nth.new.self c.in_ok-text.text.now c.in_ok-text.ensures.text c.in_ok-text.ensures.rest))

pub invariant_of-self-2 : goal.invariant_of-self-2
invariant_of-self-2 g c =
    let left : c.args.n + 1 + length c.nth.new.self ≡ length c.self.inside.strings = left_behind c.args.n c.self.inside.strings c.nth.new.self c.in_ok-text.text.now c.in_ok-text.ensures.text c.in_ok-text.ensures.rest in
    (omega arith, λ i below. c.self.invariant.1 i (omega arith))
