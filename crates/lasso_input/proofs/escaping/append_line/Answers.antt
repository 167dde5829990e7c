use Rattle.std.proofs.Common.{ℕ, ◌≡◌, ◌++◌, ◌∙◌, List, [], true, false, is_ok, ap, drop, refl, sym}
use Rattle.std.specs.Result.{result_unwrap_or}
use Rattle.hex.specs.Hex.{decode_of}
use Rattle.lasso_input.proofs.Ends.{appended}
use Rattle.lasso_input.proofs.FirstLines.{rest_behind}
use Rattle.lasso_input.proofs.HexDigits.{nothing_is_read}
use Rattle.lasso_input.proofs.LineTexts.{read_is_line, unmarked_is_line, unread_is_line}
use Rattle.lasso_input.specs.Texts.{is_marked, line_of}
use Rattle.lasso_input.proofs.escaping.append_line.Goals as goal

pub returns-then-not-is_marked : goal.returns-then-not-is_marked
returns-then-not-is_marked g c =
    let unmarked : is_marked c.args.text.now ≡ false = cc in
    appended c.extend_from_slice.result _ c.args.lines.now.items c.args.lines.now.items c.as_bytes-bytes.result.now (line_of c.args.text.now) c.extend_from_slice.ensures.items refl
    (c.as_bytes-bytes.ensures.value ∙ sym (unmarked_is_line c.args.text.now unmarked))

pub returns-then-is_read : goal.returns-then-is_read
returns-then-is_read g c =
    let text = c.as_bytes-bytes.result.now in
    let lines = c.args.lines.now.items in
    let marked : is_marked text ≡ true = cc in
    let read : is_ok (decode_of (drop 4 text)) ≡ true = ap (λ ds. is_ok (decode_of ds)) (sym (rest_behind 4 text)) ∙ sym c.in_ok-is_read.ensures.is_read ∙ c.if-is_read.true in
    c.in_ok-is_read.ensures.bytes ∙ ap (λ (ds : List ℕ). lines ++ result_unwrap_or (decode_of ds) []) (rest_behind 4 text) ∙ ap (λ (l : List ℕ). lines ++ l) (read_is_line text marked read)
    ∙ ap (λ (t : List ℕ). lines ++ line_of t) c.as_bytes-bytes.ensures.value

pub returns-else-is_read : goal.returns-else-is_read
returns-else-is_read g c =
    let text = c.as_bytes-bytes.result.now in
    let lines = c.args.lines.now.items in
    let marked : is_marked text ≡ true = cc in
    let unread : is_ok (decode_of (drop 4 text)) ≡ false = ap (λ ds. is_ok (decode_of ds)) (sym (rest_behind 4 text)) ∙ sym c.in_ok-is_read.ensures.is_read ∙ c.if-is_read.false in
    let kept = c.in_ok-is_read.ensures.bytes ∙ ap (λ (ds : List ℕ). lines ++ result_unwrap_or (decode_of ds) []) (rest_behind 4 text) ∙ sym (nothing_is_read (drop 4 text) lines unread) in
    appended c.extend_from_slice-else-is_read.result _ c.append_read.new.bytes.items lines text (line_of c.args.text.now) c.extend_from_slice-else-is_read.ensures.items kept
    (unread_is_line text marked unread ∙ ap line_of c.as_bytes-bytes.ensures.value)
