use Rattle.std.proofs.Common.{◌≡◌, ◌*◌, ◌≤◌, Ok, length, map, min, take, vec_capacity}
use Rattle.lasso_single.specs.Filling.{extend}
use Rattle.lasso_single.specs.Coding.{spur_at}
use Rattle.lasso_columns.specs.Adding.{AddsCounts}
use Rattle.lasso_columns.proofs.counts.parts.count_in_parts.Given as goal

-- the texts of the parts before were counted
abbrev pub invariant-loop-part : goal.invariant-loop-part
invariant-loop-part g l = record {
  start : l.start ≡ min (l.part * l.size) (length l.texts);
  list : extend spur_at l.fn.rodeo (take l.start (map (λ t. t.now) l.texts)) (Ok tt) l.rodeo;
  counts : AddsCounts (take l.start (map (λ t. t.now) l.texts)) l.fn.rodeo.texts l.fn.counts.items l.rodeo.texts l.counts.items;
  room : vec_capacity l.fn.counts ≤ vec_capacity l.counts;
}
