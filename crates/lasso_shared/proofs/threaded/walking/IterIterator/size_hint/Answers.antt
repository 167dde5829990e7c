use Rattle.std.proofs.Common.{Some, sym, ap, ◌∙◌, arith}
use Rattle.lasso_shared.proofs.Walked.{pairs_left}
use Rattle.lasso_shared.proofs.threaded.walking.IterIterator.size_hint.Goals as goal

pub returns-clause-lower : goal.returns-clause-lower
returns-clause-lower g c =
    let left = pairs_left g.K.Key.key_at c.self.inside.first c.self.inside.strings c.args.self.now c.self.view_is c.self.invariant.1 in
    λ _. omega (arith, left, c.size_hint.ensures.least)

pub returns-clause-upper : goal.returns-clause-upper
returns-clause-upper g c =
    let left = pairs_left g.K.Key.key_at c.self.inside.first c.self.inside.strings c.args.self.now c.self.view_is c.self.invariant.1 in
    rw c.size_hint.ensures.most (tt, omega (arith, left))

pub returns-clause-least : goal.returns-clause-least
returns-clause-least g c =
    let left = pairs_left g.K.Key.key_at c.self.inside.first c.self.inside.strings c.args.self.now c.self.view_is c.self.invariant.1 in
    c.size_hint.ensures.least ∙ sym left

pub returns-clause-most : goal.returns-clause-most
returns-clause-most g c =
    let left = pairs_left g.K.Key.key_at c.self.inside.first c.self.inside.strings c.args.self.now c.self.view_is c.self.invariant.1 in
    c.size_hint.ensures.most ∙ ap Some (sym left)
