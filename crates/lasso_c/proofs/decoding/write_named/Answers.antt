use Rattle.std.proofs.Common.{◌≡◌, length, get_or, set, unwrap_or, Some, refl, arith, ap, sym, ◌∙◌, []}
use Rattle.std.proofs.lemmas.List.{length-map}
use Rattle.std.specs.Option.{option_copied}
use Rattle.std.proofs.lemmas.Grind.{common_steps}
use Rattle.lasso_parts.specs.Layout.{greatest_offset, layout_texts}
use Rattle.lasso_c.specs.Decoding.{rows_named, text_of_code}
use Rattle.lasso_c.proofs.Measuring.{room_known, named_at}
use Rattle.lasso_c.proofs.Writing.{none_written, room_at, written_next, written_to}
use Rattle.lasso_c.proofs.decoding.write_named.Goals as goal

pub loop-at-init : goal.loop-at-init
loop-at-init c =
    let dictionary = layout_texts c.args.dictionary_bytes.now c.args.dictionary_offsets.now in
    let room = room_known c.args.null dictionary c.args.codes.now (length c.args.offsets.now) (length c.args.bytes.now) c.requires.room in
    none_written greatest_offset (rows_named c.args.null dictionary c.args.codes.now) c.args.offsets.now c.args.bytes.now room.offsets_room room.bytes_room room.small

pub unwrap-text-requires : goal.unwrap-text-requires
unwrap-text-requires c =
    let dictionary = layout_texts c.args.dictionary_bytes.now c.args.dictionary_offsets.now in
    let room = room_known c.args.null dictionary c.args.codes.now (length c.args.offsets.now) (length c.args.bytes.now) c.requires.room in
    let named = room.named c.loop-at.at (omega arith) in
    let there : option_copied c.text_of.result ≡ Some named.0 = c.text_of.ensures ∙ named.1 in
    grind (arith, common_steps)

pub put_text-start-requires-clause-bytes : goal.put_text-start-requires-clause-bytes
put_text-start-requires-clause-bytes c =
    let dictionary = layout_texts c.args.dictionary_bytes.now c.args.dictionary_offsets.now in
    let there : text_of_code c.args.null dictionary (get_or c.args.codes.now c.loop-at.at 0) ≡ Some c.unwrap-text.result.now = sym c.text_of.ensures ∙ ap (λ o. option_copied o) c.unwrap-text.ensures in
    room_at greatest_offset _ _ (rows_named c.args.null dictionary c.args.codes.now) c.loop-at.at c.loop-at.start c.loop-at.offsets c.loop-at.bytes c.unwrap-text.result.now (named_at c.args.null dictionary c.args.codes.now c.loop-at.at c.unwrap-text.result.now (omega arith) there) c.loop-at.invariant

pub loop-at-preserved : goal.loop-at-preserved
loop-at-preserved c =
    let dictionary = layout_texts c.args.dictionary_bytes.now c.args.dictionary_offsets.now in
    let there : text_of_code c.args.null dictionary (get_or c.args.codes.now c.loop-at.at 0) ≡ Some c.unwrap-text.result.now = sym c.text_of.ensures ∙ ap (λ o. option_copied o) c.unwrap-text.ensures in
    let put = c.put_text-start.ensures in
    written_next greatest_offset _ _ (rows_named c.args.null dictionary c.args.codes.now) c.loop-at.at c.loop-at.start c.loop-at.offsets c.loop-at.bytes c.unwrap-text.result.now c.unwrap-text.result.now c.put_text-start.result c.put_text-start.new.offsets c.put_text-start.new.bytes (named_at c.args.null dictionary c.args.codes.now c.loop-at.at c.unwrap-text.result.now (omega arith) there) refl c.loop-at.invariant put.end put.offsets put.bytes

pub returns-clause-offsets : goal.returns-clause-offsets
returns-clause-offsets c =
    let dictionary = layout_texts c.args.dictionary_bytes.now c.args.dictionary_offsets.now in
    let here : length c.args.codes.now ≡ c.loop-at.at = omega arith in
    let n = length-map c.args.codes.now (λ code. unwrap_or (text_of_code c.args.null dictionary code) []) in
    ap (λ k. set c.loop-at.offsets k c.loop-at.start) here ∙ (written_to greatest_offset _ _ (rows_named c.args.null dictionary c.args.codes.now) c.loop-at.at c.loop-at.start c.loop-at.offsets c.loop-at.bytes (omega arith) c.loop-at.invariant).0
