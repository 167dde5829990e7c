use Rattle.std.proofs.Common.{◌≡◌, length, set, arith, ap, ◌∙◌}
use Rattle.lasso_parts.specs.Layout.{greatest_offset}
use Rattle.lasso_c.proofs.Writing.{room_at, written_next, written_to}
use Rattle.lasso_c.proofs.encoding.write_dictionary.Goals as goal

pub put_text-start-requires-clause-bytes : goal.put_text-start-requires-clause-bytes
put_text-start-requires-clause-bytes c =
    omega (arith, room_at greatest_offset _ _ c.args.dictionary.now.texts c.loop-at.at c.loop-at.start c.loop-at.offsets c.loop-at.bytes c.text_at_code.result.now c.text_at_code.ensures c.loop-at.invariant, ap length c.as_bytes-text.ensures.value)

pub loop-at-preserved : goal.loop-at-preserved
loop-at-preserved c =
    let put = c.put_text-start.ensures in
    written_next greatest_offset _ _ c.args.dictionary.now.texts c.loop-at.at c.loop-at.start c.loop-at.offsets c.loop-at.bytes c.text_at_code.result.now c.as_bytes-text.result.now c.put_text-start.result c.put_text-start.new.offsets c.put_text-start.new.bytes c.text_at_code.ensures c.as_bytes-text.ensures.value c.loop-at.invariant put.end put.offsets put.bytes

pub returns-clause-offsets : goal.returns-clause-offsets
returns-clause-offsets c =
    let here : c.len.result ≡ c.loop-at.at = omega arith in
    ap (λ n. set c.loop-at.offsets n c.loop-at.start) here ∙ (written_to greatest_offset _ _ c.args.dictionary.now.texts c.loop-at.at c.loop-at.start c.loop-at.offsets c.loop-at.bytes (omega arith) c.loop-at.invariant).0
