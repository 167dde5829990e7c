use Rattle.std.proofs.Common.{◌≡◌, ℕ, Option, Some, sym, ap, ◌∙◌}
use Rattle.std.specs.Prelude.{option_and_then}
use Rattle.lasso_parts.proofs.IndexLaws.{position_of_at}
use Rattle.lasso_parts.specs.Texts.{position_of}
use Rattle.lasso_single.proofs.rodeo.guessing.get_guessed.Goals as goal

pub returns-then-has_at : goal.returns-then-has_at
returns-then-has_at g c =
    let at : position_of c.args.list.now.texts c.args.text.now ≡ Some c.args.guess = position_of_at _ _ _ c.requires.whole.distinct (c.has_at.ensures c.if-has_at.true) in
    c.try_from_usize.ensures ∙ ap (λ (o : Option ℕ). option_and_then g.K.Key.key_at o) (sym at)
