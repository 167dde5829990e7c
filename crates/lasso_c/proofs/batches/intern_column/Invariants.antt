use Rattle.std.proofs.Common.{take}
use Rattle.lasso_c.specs.Layout.{column_rows}
use Rattle.lasso_c.proofs.BatchSteps.{Batch}
use Rattle.lasso_c.proofs.LayoutSteps.{Begun}
use Rattle.lasso_c.proofs.batches.intern_column.Given as goal

-- the rows before this one are done, and their codes written
abbrev pub invariant-loop-at : goal.invariant-loop-at
invariant-loop-at g l = record {
  codes : Batch l.null l.fn.dictionary.texts (take l.at (column_rows l.bits l.bytes (g.O.Offset.numbers l.offsets))) l.fn.codes l.dictionary.texts l.codes;
  begun : Begun g.O.Offset.GREATEST l.bits l.bytes (g.O.Offset.numbers l.offsets) l.at l.fn.dictionary l.dictionary;
}
