use Rattle.std.proofs.Common.{◌≡◌, ◌+◌, ◌≤◌, drop, length}
use Rattle.std.specs.List.{concat}
use Rattle.lasso_c.proofs.batches.sizes_from.Given as goal

-- the bytes so far and those of the texts that are left
abbrev pub invariant-loop-at : goal.invariant-loop-at
invariant-loop-at g l = (l.bytes + length (concat (drop l.at (drop l.from l.dictionary.texts))) ≡ length (concat (drop l.from l.dictionary.texts))) × (l.bytes ≤ g.O.Offset.GREATEST)
