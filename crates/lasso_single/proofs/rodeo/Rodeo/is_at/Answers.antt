use Rattle.std.proofs.Common.{◌≡◌, ℕ, Some, IsSome, subst}
use Rattle.std.proofs.lemmas.Option.{slice_get_within}
use Rattle.lasso_parts.proofs.IndexLaws.{position_of_at}
use Rattle.lasso_parts.specs.Texts.{position_of}
use Rattle.lasso_single.specs.Interner.{InternerView}
use Rattle.lasso_single.proofs.rodeo.Rodeo.is_at.Goals as goal

pub returns-clause-position : goal.returns-clause-position
returns-clause-position g c = λ yes.
    subst (λ (v : InternerView). position_of v.texts c.args.text.now ≡ Some c.args.position) c.self.view_is (position_of_at _ _ _ c.self.invariant.0.distinct (c.has_at.ensures yes))

pub returns-clause-key : goal.returns-clause-key
returns-clause-key g c = λ yes. c.self.invariant.1 _ (slice_get_within _ _ _ (c.has_at.ensures yes))
