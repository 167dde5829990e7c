use Rattle.lasso_guide.proofs.text_set.TextSet.position.Goals as goal

pub returns : goal.returns
returns g c = rw (← c.self.view_is) (c.find.ensures.whole c.self.invariant.0)
