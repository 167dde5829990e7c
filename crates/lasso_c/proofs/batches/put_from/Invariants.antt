use Rattle.std.proofs.Common.{drop}
use Rattle.std.specs.List.{concat}
use Rattle.lasso_parts.specs.Layout.{offsets_from}
use Rattle.lasso_c.specs.Layout.{over}
use Rattle.lasso_c.proofs.Writing.{Writes}
use Rattle.lasso_c.proofs.batches.put_from.Given as goal

-- the texts from the code on are left
abbrev pub invariant-loop-at : goal.invariant-loop-at
invariant-loop-at g l = Writes g.O.Offset.GREATEST (over (offsets_from 0 (drop l.from l.dictionary.texts)) (g.O.Offset.numbers l.fn.offsets)) (over (concat (drop l.from l.dictionary.texts)) l.fn.bytes) (drop l.at (drop l.from l.dictionary.texts)) l.at l.start (g.O.Offset.numbers l.offsets) l.bytes
