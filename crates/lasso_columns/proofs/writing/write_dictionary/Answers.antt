use Rattle.std.proofs.Common.{ℕ, List, ◌+◌, ◌++◌, drop, length, map, arith, ap, ◌∙◌, length-drop}
use Rattle.std.proofs.lemmas.List.{map_push}
use Rattle.lasso_columns.proofs.Written.{all_utf8, bytes_within, count_more, one_written, text_from}
use Rattle.lasso_columns.proofs.writing.write_dictionary.Goals as goal

pub from_usize-requires-in-loop-at : goal.from_usize-requires-in-loop-at
from_usize-requires-in-loop-at g c =
    let list = g.D.Texts.list c.args.dictionary.now in
    let rest = drop c.args.from list in
    let at = c.loop-at.at in
    let more = count_more rest at c.text_at.result.now (text_from list c.args.from at c.text_at.result.now c.text_at.ensures) in
    omega (arith, more, bytes_within rest (at + 1), ap length c.loop-at.invariant.bytes_are, c.loop-at.bytes.ok.0, c.len.ensures, c.in_ok-extend_from_slice.ensures.len, c.as_bytes-text.ensures.len, c.in_ok-total.ensures.fits, c.GREATEST.ensures)

pub loop-at-preserved : goal.loop-at-preserved
loop-at-preserved g c =
    let list = g.D.Texts.list c.args.dictionary.now in
    let number = g.O.Offset.number in
    let old = c.loop-at.bytes.items in
    let puts = c.in_ok-extend_from_slice.ensures.items ∙ ap (λ (bs : List ℕ). old ++ bs) c.as_bytes-text.ensures.value in
    let ends = c.from_usize-in-loop-at.ensures ∙ c.len.ensures ∙ c.extend_from_slice.new.self.ok.0 in
    let put = ap (map number) c.in_ok-push-2.ensures.items ∙ map_push number c.loop-at.offsets.items c.from_usize-in-loop-at.result in
    one_written (drop c.args.from list) c.loop-at.at c.text_at.result.now old (map number c.loop-at.offsets.items) c.extend_from_slice.new.self.items (map number c.push-in-loop-at.new.self.items) (number c.from_usize-in-loop-at.result)
    (text_from list c.args.from c.loop-at.at c.text_at.result.now c.text_at.ensures) c.text_at.utf8 c.loop-at.invariant puts ends put

pub returns-clause-texts : goal.returns-clause-texts
returns-clause-texts g c =
    let list = g.D.Texts.list c.args.dictionary.now in
    all_utf8 (drop c.args.from list) c.loop-at.at c.loop-at.bytes.items (map g.O.Offset.number c.loop-at.offsets.items) (omega (arith, length-drop c.args.from list, c.saturating_sub-count.ensures, c.texts.ensures, c.loop-at-test.false)) c.loop-at.invariant
