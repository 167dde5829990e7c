use Rattle.std.proofs.Common.{◌≡◌, ◌+◌, List, length, take, sum, vec_capacity}
use Rattle.lasso_parts.specs.Texts.{Text, IsDistinct}
use Rattle.lasso_single.specs.Codes.{AreCodes}
use Rattle.lasso_columns.specs.Adding.{AddsAmounts}
use Rattle.lasso_columns.proofs.counts.parts.add_counts.Given as goal

-- the amounts before the position were added
abbrev pub invariant-loop-position : goal.invariant-loop-position
invariant-loop-position l = record {
  added : (list from : List Text) → length l.fn.counts.items ≡ length list → IsDistinct from → AreCodes list from l.places → AddsAmounts list (take l.position from) (take l.position l.amounts) l.fn.counts.items l.counts.items;
  long : length l.counts.items ≡ length l.fn.counts.items;
  total : sum l.counts.items ≡ sum l.fn.counts.items + sum (take l.position l.amounts);
  capacity : vec_capacity l.counts ≡ vec_capacity l.fn.counts;
}
