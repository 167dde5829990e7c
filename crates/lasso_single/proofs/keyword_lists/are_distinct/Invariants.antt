use Rattle.std.proofs.Common.{map, take}
use Rattle.lasso_parts.specs.Texts.{IsDistinct}
use Rattle.lasso_single.proofs.keyword_lists.are_distinct.Given as goal

abbrev pub invariant-loop-i : goal.invariant-loop-i
invariant-loop-i l = IsDistinct (take l.i (map (λ t. t.now) l.keywords))
