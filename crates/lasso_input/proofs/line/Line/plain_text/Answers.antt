use Rattle.std.proofs.Common.{◌≡◌, subst, true, ◌∙◌}
use Rattle.lasso_input.proofs.LineTexts.{own_by_parts}
use Rattle.lasso_input.proofs.Tested.{plain_unmarked}
use Rattle.lasso_input.specs.Texts.{is_own_text}
use Rattle.lasso_input.proofs.line.Line.plain_text.Goals as goal

pub returns-then-self : goal.returns-then-self
returns-then-self c =
    let plain = c.self.invariant c.if-self.true in
    let bytes = c.self.inside.bytes.now in
    (c.from_utf8_unchecked.ensures ∙ c.self.view_is, subst (λ bs. is_own_text bs ≡ true) c.self.view_is (own_by_parts bytes plain.0 (plain_unmarked bytes plain.1)))
