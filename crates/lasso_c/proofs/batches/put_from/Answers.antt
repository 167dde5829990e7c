use Rattle.std.proofs.Common.{◌≡◌, length, drop, set, arith, ap, ◌∙◌, length-drop}
use Rattle.lasso_c.proofs.BatchSteps.{get_from}
use Rattle.lasso_c.proofs.Writing.{room_at, written_next, written_to}
use Rattle.lasso_c.proofs.batches.put_from.Goals as goal

pub put_text-start-requires-clause-bytes : goal.put_text-start-requires-clause-bytes
put_text-start-requires-clause-bytes g c =
    let texts = c.args.dictionary.now.texts in
    omega (arith, room_at g.O.Offset.GREATEST _ _ (drop c.args.from texts) c.loop-at.at c.loop-at.start (g.O.Offset.numbers c.loop-at.offsets) c.loop-at.bytes c.text_at_code.result.now (get_from texts c.args.from c.loop-at.at c.text_at_code.result.now c.text_at_code.ensures) c.loop-at.invariant, ap length c.as_bytes-text.ensures.value)

pub loop-at-preserved : goal.loop-at-preserved
loop-at-preserved g c =
    let put = c.put_text-start.ensures in
    let texts = c.args.dictionary.now.texts in
    written_next g.O.Offset.GREATEST _ _ (drop c.args.from texts) c.loop-at.at c.loop-at.start (g.O.Offset.numbers c.loop-at.offsets) c.loop-at.bytes c.text_at_code.result.now c.as_bytes-text.result.now c.put_text-start.result (g.O.Offset.numbers c.put_text-start.new.offsets) c.put_text-start.new.bytes (get_from texts c.args.from c.loop-at.at c.text_at_code.result.now c.text_at_code.ensures) c.as_bytes-text.ensures.value c.loop-at.invariant put.end put.offsets put.bytes

pub returns-clause-offsets : goal.returns-clause-offsets
returns-clause-offsets g c =
    let part = drop c.args.from c.args.dictionary.now.texts in
    let here : c.saturating_sub-count.result ≡ c.loop-at.at = omega arith in
    c.put.ensures ∙ ap (λ n. set (g.O.Offset.numbers c.loop-at.offsets) n c.loop-at.start) here ∙ (written_to g.O.Offset.GREATEST _ _ part c.loop-at.at c.loop-at.start (g.O.Offset.numbers c.loop-at.offsets) c.loop-at.bytes (omega (arith, length-drop c.args.from c.args.dictionary.now.texts)) c.loop-at.invariant).0
