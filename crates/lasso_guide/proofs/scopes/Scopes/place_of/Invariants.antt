use Rattle.lasso_guide.specs.Scopes.{IsLast}
use Rattle.lasso_guide.proofs.Naming.{HasNumber}
use Rattle.lasso_guide.proofs.scopes.Scopes.place_of.Given as goal

-- of the variables before the place, the last one with the wanted key was found
abbrev pub invariant-loop-place : goal.invariant-loop-place
invariant-loop-place g l = IsLast (HasNumber g.K.Key.number l.self.variables.items l.wanted) l.place l.found
