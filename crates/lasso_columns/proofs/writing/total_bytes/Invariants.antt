use Rattle.std.proofs.Common.{◌≡◌, ◌≤◌, drop, length, take}
use Rattle.std.specs.List.{concat}
use Rattle.lasso_columns.proofs.writing.total_bytes.Given as goal

-- `total` counts the bytes of the texts before `at`
abbrev pub invariant-loop-at : goal.invariant-loop-at
invariant-loop-at g l = (l.total ≡ length (concat (take l.at (drop l.from (g.D.Texts.list l.dictionary))))) × (l.total ≤ l.most)
