use Rattle.std.proofs.Common.{drop, map}
use Rattle.lasso_columns.proofs.Readings.{Reading}
use Rattle.lasso_columns.proofs.reading.append_texts.Given as goal

-- the texts before `at` were appended
abbrev pub invariant-loop-at : goal.invariant-loop-at
invariant-loop-at g l =
    Reading g.K.Key.key_at g.O.Offset.GREATEST l.bytes (map g.O.Offset.number l.offsets) l.fn.rodeo l.at l.from (drop l.at (map g.O.Offset.number l.rest)) l.rodeo
