use Rattle.std.proofs.Common.{◌≡◌}
use Rattle.lasso_guide.proofs.passes.intern_names.Given as goal

abbrev pub invariant-loop-name : goal.invariant-loop-name
invariant-loop-name g l = l.pass.of ≡ l.rodeo
