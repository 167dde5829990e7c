use Rattle.std.proofs.Common.{map, take}
use Rattle.lasso_single.specs.Filling.{extend}
use Rattle.lasso_single.proofs.Filled.{accepted}
use Rattle.lasso_single.proofs.commands.intern_each.Given as goal

abbrev pub invariant-loop-text : goal.invariant-loop-text
invariant-loop-text g l = extend g.K.Key.key_at l.fn.rodeo (map (λ t. t.now) (take l.text-index l.texts)) accepted l.rodeo
