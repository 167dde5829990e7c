use Rattle.std.proofs.Common.{◌≡◌, ◌++◌, ◌∙◌, [], Some, ap, sym, append_assoc, append-nil, arith, drop, length}
use Rattle.std.proofs.lemmas.Grind.{common_steps}
use Rattle.lasso_lines.proofs.Ways.{all_shown}
use Rattle.lasso_lines.proofs.cutting.read_all.Goals as goal

-- the buffer is empty after a read, so no bytes are left
pub returns-then-is_empty-clause-whole : goal.returns-then-is_empty-clause-whole
returns-then-is_empty-clause-whole g c =
    let none : g.I.ByteReader.at_hand c.fill_again.new.reader ≡ [] = grind (arith, common_steps) in
    λ whole e.
    let left = c.parts.invariant.ahead whole e in
    c.in_ok-fill_again.ensures.end none _ (c.consume.ensures.left left.0 left.1)

-- so all bytes were read
pub returns-then-is_empty-clause-bytes : goal.returns-then-is_empty-clause-bytes
returns-then-is_empty-clause-bytes g c = λ whole e.
    let none : g.I.ByteReader.at_hand c.fill_again.new.reader ≡ [] = grind (arith, common_steps) in
    let left = c.parts.invariant.ahead whole e in
    let buffer = c.buffer-buffer.result.now in
    let rest = drop (length buffer) left.0 in
    let behind = c.consume.ensures.left left.0 left.1 in
    let ended : g.I.ByteReader.left c.fill_again.new.reader ≡ Some [] = c.in_ok-fill_again.ensures.end none rest behind in
    let kept : g.I.ByteReader.left c.fill_again.new.reader ≡ Some rest = c.fill_again.ensures.left rest behind in
    let gone : rest ≡ [] = cc in
    let split : left.0 ≡ buffer = all_shown buffer left.0 (c.buffer-buffer.ensures.first left.0 left.1) ∙ ap (λ bs. buffer ++ bs) gone ∙ append-nil buffer in
    c.in_ok-hold.ensures.held ∙ ap (λ bs. c.parts.input.items ++ bs) (sym split) ∙ left.2

pub parts-preserved : goal.parts-preserved
parts-preserved g c = record {
  reads = omega (arith, c.in_ok-fill_again.ensures.reads, c.consume.ensures.failures, c.parts.invariant.reads);
  ahead = λ whole e.
      let left = c.parts.invariant.ahead whole e in
      let buffer = c.buffer-buffer.result.now in
      let rest = drop (length buffer) left.0 in
      let split = all_shown buffer left.0 (c.buffer-buffer.ensures.first left.0 left.1) in (
        rest,
        c.fill_again.ensures.left rest (c.consume.ensures.left left.0 left.1),
        ap (λ bs. bs ++ rest) c.in_ok-hold.ensures.held ∙ append_assoc c.parts.input.items buffer rest ∙ ap (λ bs. c.parts.input.items ++ bs) (sym split) ∙ left.2,
      );
}
