use Rattle.std.proofs.Common.{◌≡◌, ◌+◌, ◌-◌, ◌<◌, ◌++◌, ◌∷◌, length, take, drop, refl, sym, ap, subst, ◌∙◌, arith}
use Rattle.std.proofs.lemmas.Grind.{common_steps}
use Rattle.std.proofs.lemmas.Bool.Decides.{nat_tests}
use Rattle.lasso_input.specs.Lines.{NoFeed}
use Rattle.lasso_input.specs.Texts.{IsPlain}
use Rattle.lasso_input.proofs.FirstLines.{cut_at, none_no_feed}
use Rattle.lasso_input.proofs.Tested.{line_is_tested, after_is_tested}
use Rattle.lasso_input.proofs.stretch.Stretch.next_ended.Goals as goal

pub returns-in_default-clause-line : goal.returns-in_default-clause-line
returns-in_default-clause-line c = (subst NoFeed c.self.view_is (none_no_feed c.self.inside.rest.now c.in_default.ensures), refl)

pub tested-requires : goal.tested-requires
tested-requires c = λ tested.
    let rest = c.self.inside.rest.now in
    let at = c.in-Some.at in
    let small : c.self.inside.untested < length rest - at = grind (arith, common_steps, nat_tests) in
    line_is_tested rest at c.self.inside.untested c.self.invariant c.in-Some.ensures small

pub invariant_of-self : goal.invariant_of-self
invariant_of-self c =
    let rest = c.self.inside.rest.now in
    let untested = c.self.inside.untested in
    subst (λ bs. IsPlain (take (length bs - untested) bs)) (sym c.after_newline-self-inside.ensures.value) (after_is_tested rest c.in-Some.at untested c.self.invariant c.in-Some.ensures)

pub returns-clause-line : goal.returns-clause-line
returns-clause-line c =
    let rest = c.self.inside.rest.now in
    let at = c.in-Some.at in
    let cut = cut_at rest at c.in-Some.ensures in
    let line = c.tested.result in
    let after = c.after_newline-self-inside.result.now in
    let here : rest ≡ line ++ 10 ∷ after =
    cut.bytes_are ∙ ap (λ bs. bs ++ 10 ∷ drop (at + 1) rest) (sym c.tested.ensures) ∙ ap (λ bs. line ++ 10 ∷ bs) (sym c.after_newline-self-inside.ensures.value) in
    (subst NoFeed (sym c.tested.ensures) cut.no_feed, sym c.self.view_is ∙ here)
