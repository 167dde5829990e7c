use Rattle.std.proofs.Common.{drop, map}
use Rattle.lasso_columns.proofs.Written.{Written}
use Rattle.lasso_columns.proofs.writing.write_dictionary.Given as goal

-- the texts before `at` are written
abbrev pub invariant-loop-at : goal.invariant-loop-at
invariant-loop-at g l = Written (drop l.from (g.D.Texts.list l.dictionary)) l.at l.bytes.items (map g.O.Offset.number l.offsets.items)
