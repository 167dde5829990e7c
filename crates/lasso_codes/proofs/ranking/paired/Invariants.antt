use Rattle.std.proofs.Common.{◌≡◌, map, take}
use Rattle.std.specs.Prelude.{zip}
use Rattle.lasso_columns.specs.Counts.{pair_of}
use Rattle.lasso_codes.proofs.ranking.paired.Given as goal

-- the lines before the position, with their counts
abbrev pub invariant-loop-position : goal.invariant-loop-position
invariant-loop-position l = map pair_of l.ranked.items ≡ take l.position (zip l.counts l.table)
