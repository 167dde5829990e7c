use Rattle.std.proofs.Common.{◌≡◌, ◌≤◌, drop}
use Rattle.lasso_parts.specs.Layout.{greatest_offset, layout_texts}
use Rattle.lasso_c.specs.Decoding.{measured, nothing}
use Rattle.lasso_c.proofs.decoding.measure.Given as goal

-- no code was wrong so far
abbrev pub invariant-loop-code : goal.invariant-loop-code
invariant-loop-code l =
    let dictionary = layout_texts l.dictionary_bytes l.dictionary_offsets in
    record {
      left : measured l.null dictionary nothing l.codes ≡ measured l.null dictionary l.sizes (drop l.code-index l.codes);
      counted : l.sizes.texts ≡ l.code-index;
      small : l.sizes.bytes ≤ greatest_offset;
    }
