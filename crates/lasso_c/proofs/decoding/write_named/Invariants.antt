use Rattle.std.proofs.Common.{drop}
use Rattle.std.specs.List.{concat}
use Rattle.lasso_c.specs.Decoding.{rows_named}
use Rattle.lasso_parts.specs.Layout.{greatest_offset, offsets_from, layout_texts}
use Rattle.lasso_c.specs.Layout.{over}
use Rattle.lasso_c.proofs.Writing.{Writes}
use Rattle.lasso_c.proofs.decoding.write_named.Given as goal

-- the texts of the codes from this one on are left
abbrev pub invariant-loop-at : goal.invariant-loop-at
invariant-loop-at l =
    let texts = rows_named l.null (layout_texts l.dictionary_bytes l.dictionary_offsets) l.codes in
    Writes greatest_offset (over (offsets_from 0 texts) l.fn.offsets) (over (concat texts) l.fn.bytes) (drop l.at texts) l.at l.start l.offsets l.bytes
