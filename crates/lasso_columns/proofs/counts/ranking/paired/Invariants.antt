use Rattle.std.proofs.Common.{◌≡◌, map, take}
use Rattle.std.specs.Prelude.{zip}
use Rattle.lasso_columns.specs.Counts.{pair_of}
use Rattle.lasso_columns.proofs.counts.ranking.paired.Given as goal

-- the texts before the position, with their counts
abbrev pub invariant-loop-position : goal.invariant-loop-position
invariant-loop-position g l = map pair_of l.ranked.items ≡ take l.position (zip l.counts l.rodeo.texts)
