use Rattle.std.proofs.Common.{◌≡◌, ◌∙◌, List, [], ◌∷◌, ◌++◌, ap}
use Rattle.lasso.specs.Texts.{Text}
use Rattle.lasso.specs.Span.{Span}
use Rattle.lasso_guide.proofs.TextSets.{stored_pushed, texts_pushed}
use Rattle.lasso_guide.proofs.text_set.StoredTexts.push.Goals as goal

pub invariant_of-self-in_err-span : goal.invariant_of-self-in_err-span
invariant_of-self-in_err-span c = rw (c.in_err-span.ensures.err, c.in_ok-reserve.ensures.items) c.self.invariant

pub invariant_of-self-2 : goal.invariant_of-self-2
invariant_of-self-2 c =
    let i = c.self.inside in
    let grown = c.push_reserved.ensures.items ∙ ap (λ (xs : List Span). xs ++ c.in_ok-span.span ∷ []) c.in_ok-reserve.ensures.items in
    stored_pushed i.arena.all c.store_str.new.self.all i.spans.items c.push_reserved.new.self.items c.in_ok-span.span c.self.invariant c.in_ok-span.ensures.kept grown c.in_ok-span.ensures.stored.0

pub returns-clause-pushed : goal.returns-clause-pushed
returns-clause-pushed c =
    let i = c.self.inside in
    let grown = c.push_reserved.ensures.items ∙ ap (λ (xs : List Span). xs ++ c.in_ok-span.span ∷ []) c.in_ok-reserve.ensures.items in
    texts_pushed i.arena.all c.store_str.new.self.all i.spans.items c.push_reserved.new.self.items c.in_ok-span.span c.self.invariant c.in_ok-span.ensures.kept grown c.args.text.now c.in_ok-span.ensures.stored.1
    ∙ ap (λ (ts : List Text). ts ++ c.args.text.now ∷ []) c.self.view_is

pub invariant_of-self : goal.invariant_of-self
invariant_of-self c = rw c.in_err-reserve.ensures.items c.self.invariant
