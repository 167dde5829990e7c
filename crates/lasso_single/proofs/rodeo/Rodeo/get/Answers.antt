use Rattle.std.proofs.Common.{◌≡◌, ℕ, Option, Some, None, is_some, sym, ap, ◌∙◌, subst}
use Rattle.std.specs.Prelude.{option_and_then}
use Rattle.lasso_parts.specs.Texts.{position_of}
use Rattle.lasso_parts.proofs.TextLemmas.{key_of_present}
use Rattle.lasso_single.proofs.rodeo.Rodeo.get.Goals as goal

pub returns-clause-value : goal.returns-clause-value
returns-clause-value g c =
    let key_at = g.K.Key.key_at in
    let at : Some c.in_ok-position.position ≡ position_of c.self.inside.list.texts c.args.text.now = c.in_ok-position.ensures.whole c.self.invariant.0 in
    rw (← c.self.view_is) (c.try_from_usize.ensures ∙ ap (λ (o : Option ℕ). option_and_then key_at o) at)

pub returns-clause-present : goal.returns-clause-present
returns-clause-present g c =
    let texts = c.self.inside.list.texts in
    let text = c.args.text.now in
    let key_at = g.K.Key.key_at in
    let at : Some c.in_ok-position.position ≡ position_of texts text = c.in_ok-position.ensures.whole c.self.invariant.0 in
    let present = key_of_present key_at texts text c.self.invariant.1 in
    rw (← c.self.view_is) (rw c.try_from_usize.ensures (subst (λ (o : Option ℕ). is_some (option_and_then key_at o) ≡ is_some (position_of texts text)) (sym at) present))

pub returns-in_err-position-clause-value : goal.returns-in_err-position-clause-value
returns-in_err-position-clause-value g c =
    let key_at = g.K.Key.key_at in
    let none : None ≡ position_of c.self.inside.list.texts c.args.text.now = c.in_err-position.ensures.whole c.self.invariant.0 in
    rw (← c.self.view_is) (c.from_residual.ensures ∙ ap (λ (o : Option ℕ). option_and_then key_at o) none)

pub returns-in_err-position-clause-present : goal.returns-in_err-position-clause-present
returns-in_err-position-clause-present g c =
    let none : None ≡ position_of c.self.inside.list.texts c.args.text.now = c.in_err-position.ensures.whole c.self.invariant.0 in
    rw (← c.self.view_is) (rw c.from_residual.ensures (ap (λ (o : Option ℕ). is_some o) none))
