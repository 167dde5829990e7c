use Rattle.std.proofs.Common.{◌-◌, length, take, sym, subst, arith}
use Rattle.lasso_input.specs.Texts.{IsPlain}
use Rattle.lasso_input.proofs.Tested.{after_feed_is_tested}
use Rattle.lasso_input.proofs.stretch.Stretch.skip.Goals as goal

-- the lines that are passed over end at a line feed
pub invariant_of-self : goal.invariant_of-self
invariant_of-self c =
    let rest = c.self.inside.rest.now in
    let untested = c.self.inside.untested in
    let end = c.skip_lines-count.result.1 in
    let feed = c.skip_lines-count.ensures.feed (omega (arith, c.if-count-gt0.true)) in
    subst (λ bs. IsPlain (take (length bs - untested) bs)) (sym c.after_newline-self-inside.ensures.value)
    (after_feed_is_tested rest (end - 1) untested c.self.invariant (omega (arith, feed.0, c.skip_lines-count.ensures.inside)) feed.1)
