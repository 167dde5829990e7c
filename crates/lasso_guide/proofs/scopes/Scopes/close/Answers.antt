-- The first names are those of the first variables.
use Rattle.std.proofs.Common.{◌∙◌, ap, sym}
use Rattle.std.specs.Prelude.{slice_get}
use Rattle.std.proofs.lemmas.List.{take-map}
use Rattle.lasso_guide.specs.Scopes.{names_of}
use Rattle.lasso_guide.proofs.scopes.Scopes.close.Goals as goal

pub returns-in-Some-clause-closed : goal.returns-in-Some-clause-closed
returns-in-Some-clause-closed g c closed =
    let number = g.K.Key.number in
    let texts = c.args.self.now.names.texts in (
      c.in-Some.count,
      c.in-Some.ensures.items,
      ap (names_of number texts) c.truncate.ensures.items ∙ sym (take-map (λ v. slice_get texts (number v)) c.in-Some.count c.args.self.now.variables.items),
    )
