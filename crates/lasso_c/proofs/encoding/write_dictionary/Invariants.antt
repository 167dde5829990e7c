use Rattle.std.proofs.Common.{drop}
use Rattle.std.specs.List.{concat}
use Rattle.lasso_parts.specs.Layout.{greatest_offset, offsets_from}
use Rattle.lasso_c.specs.Layout.{over}
use Rattle.lasso_c.proofs.Writing.{Writes}
use Rattle.lasso_c.proofs.encoding.write_dictionary.Given as goal

-- the texts from the code on are left
abbrev pub invariant-loop-at : goal.invariant-loop-at
invariant-loop-at l = Writes greatest_offset (over (offsets_from 0 l.dictionary.texts) l.fn.offsets) (over (concat l.dictionary.texts) l.fn.bytes) (drop l.at l.dictionary.texts) l.at l.start l.offsets l.bytes
