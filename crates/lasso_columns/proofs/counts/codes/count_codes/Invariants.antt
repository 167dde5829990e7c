use Rattle.std.proofs.Common.{◌≡◌, ◌+◌, ◌≤◌, List, length, take, sum}
use Rattle.lasso_parts.specs.Texts.{Text}
use Rattle.lasso_single.specs.Codes.{AreCodes}
use Rattle.lasso_columns.specs.Adding.{AddsCounts}
use Rattle.lasso_columns.specs.Counts.{raised_by}
use Rattle.lasso_columns.proofs.counts.codes.count_codes.Given as goal

-- the codes before the position were counted
abbrev pub invariant-loop-position : goal.invariant-loop-position
invariant-loop-position l = record {
  added : (list texts : List Text) → length l.fn.counts.items ≡ length list → AreCodes list texts l.codes → AddsCounts (take l.position texts) list l.fn.counts.items list l.counts.items;
  each : raised_by l.fn.counts.items (take l.position l.codes) ≡ l.counts.items;
  long : length l.counts.items ≡ length l.fn.counts.items;
  total : sum l.counts.items ≤ sum l.fn.counts.items + l.position;
}
