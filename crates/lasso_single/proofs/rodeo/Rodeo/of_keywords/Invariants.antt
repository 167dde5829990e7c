use Rattle.std.proofs.Common.{map}
use Rattle.lasso_single.proofs.Opened.{OpenedTo}
use Rattle.lasso_single.proofs.rodeo.Rodeo.of_keywords.Given as goal

-- the keywords before the index were put
abbrev pub invariant-loop-keyword : goal.invariant-loop-keyword
invariant-loop-keyword g l = OpenedTo l.initial.rodeo (map (λ t. t.now) l.keywords) l.keyword-index l.rodeo
