use Rattle.std.proofs.Common.{◌≡◌, take}
use Rattle.lasso_parts.specs.Layout.{layout_texts}
use Rattle.lasso_c.specs.Layout.{over}
use Rattle.lasso_c.specs.Encoding.{codes_or}
use Rattle.lasso_c.proofs.batches.put_codes.Given as goal

-- the codes of the texts so far are written
abbrev pub invariant-loop-at : goal.invariant-loop-at
invariant-loop-at g l = l.codes ≡ over (codes_or l.absent l.dictionary.texts (take l.at (layout_texts l.bytes (g.O.Offset.numbers l.offsets)))) l.fn.codes
