use Rattle.std.proofs.Common.{ℕ, ◌≡◌, ◌<◌, List, length, map, arith, sym, subst, ap, ◌∙◌}
use Rattle.std.proofs.lemmas.List.{get_or_read}
use Rattle.hex.specs.Hex.{IsBytes}
use Rattle.lasso_input.specs.Lines.{lines_of}
use Rattle.lasso_columns.specs.Texts.{text_by}
use Rattle.lasso_columns.proofs.TextLines.{block_becomes, block_stays, blocks_lost}
use Rattle.lasso_columns.proofs.line_texts.with_texts.Goals as goal

pub loop-i-preserved-then-are_own_texts : goal.loop-i-preserved-then-are_own_texts
loop-i-preserved-then-are_own_texts c =
    let at = c.loop-i in
    let inside : at.i < length at.blocks.items = omega (arith, c.loop-i-test.true, c.len-i-end.ensures, c.args.read.blocks.ok.0, at.invariant.same_len) in
    let here = sym (get_or_read at.blocks.items _ _ inside c.index.ensures c.index.result.now) in
    let own = subst (λ (bs : List ℕ). map (text_by c.in-OfBytes.only_utf8) (lines_of bs) ≡ lines_of bs) c.deref.ensures.value (c.are_own_texts.ensures.own c.in-OfBytes.only_utf8 c.if-are_own_texts.true) in
    block_stays c.in-OfBytes.only_utf8 c.args.read.blocks.items at.blocks.items at.i c.index.result.now inside here (subst IsBytes c.deref.ensures.value c.are_own_texts.ensures.bytes) at.invariant own

pub returns-in_default-text_block : goal.returns-in_default-text_block
returns-in_default-text_block c =
    let at = c.loop-i in
    blocks_lost c.in-OfBytes.only_utf8 c.args.by c.args.read.blocks.items at.blocks.items c.truncate.new.self.items at.i c.args.read.more c.from.result c.in-OfBytes.is at.invariant c.truncate.ensures.items c.from.ensures

pub loop-i-preserved : goal.loop-i-preserved
loop-i-preserved c =
    let at = c.loop-i in
    let inside : at.i < length at.blocks.items = omega (arith, c.loop-i-test.true, c.len-i-end.ensures, c.args.read.blocks.ok.0, at.invariant.same_len) in
    let block = c.index-in-loop-i.result.now in
    let here = sym (get_or_read at.blocks.items _ _ inside c.index-in-loop-i.ensures block) in
    let bytes = subst IsBytes (c.deref.ensures.value ∙ ap (λ b. b.items) (get_or_read at.blocks.items _ _ inside c.index.ensures block ∙ here)) c.are_own_texts.ensures.bytes in
    let texts = subst (λ (bs : List ℕ). lines_of c.in-Ok.texts.items ≡ map (text_by c.in-OfBytes.only_utf8) (lines_of bs)) c.deref-in-loop-i.ensures.value c.in-Ok.ensures in
    block_becomes c.in-OfBytes.only_utf8 c.args.read.blocks.items at.blocks.items at.i block inside here bytes at.invariant c.in-Ok.texts texts
