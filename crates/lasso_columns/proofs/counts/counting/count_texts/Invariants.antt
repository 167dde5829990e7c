use Rattle.std.proofs.Common.{◌≤◌, Ok, map, take, vec_capacity}
use Rattle.lasso_single.specs.Filling.{extend}
use Rattle.lasso_single.specs.Coding.{spur_at}
use Rattle.lasso_columns.specs.Adding.{AddsCounts}
use Rattle.lasso_columns.proofs.counts.counting.count_texts.Given as goal

-- the texts before the position were counted
abbrev pub invariant-loop-position : goal.invariant-loop-position
invariant-loop-position g l = record {
  list : extend spur_at l.fn.rodeo (take l.position (map (λ t. t.now) l.texts)) (Ok tt) l.rodeo;
  counts : AddsCounts (take l.position (map (λ t. t.now) l.texts)) l.fn.rodeo.texts l.fn.counts.items l.rodeo.texts l.counts.items;
  room : vec_capacity l.fn.counts ≤ vec_capacity l.counts;
}
