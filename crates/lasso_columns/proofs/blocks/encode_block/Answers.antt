use Rattle.std.proofs.Common.{List, true, sym, subst, ◌≡◌, ◌∙◌}
use Rattle.std.specs.Str.{IsUtf8}
use Rattle.lasso_parts.specs.Texts.{Text}
use Rattle.lasso_input.specs.Lines.{lines_of}
use Rattle.lasso_columns.specs.Rows.{word_of, is_null}
use Rattle.lasso_columns.specs.Blocks.{IsBlock, IsRowBeside}
use Rattle.lasso_columns.proofs.Beside.{block_begins, block_push, block_ends, pushed}
use Rattle.lasso_columns.proofs.blocks.encode_block.Goals as goal

pub loop-line-init : goal.loop-line-init
loop-line-init g c =
    block_begins (word_of c.args.null) c.args.rodeo.now.texts c.args.bytes.now c.new-lines.result c.in-Ok.added.texts c.new-entries.result.items c.new-lines.ensures c.in-Ok.ensures c.new-entries.ensures.items

pub loop-line-preserved : goal.loop-line-preserved
loop-line-preserved g c =
    let list = c.args.rodeo.now.texts in
    let null = word_of c.args.null in
    let at = c.loop-line in
    let line = c.in-Some.line in
    let same : c.in-Ok-text.text.now ≡ line = c.in-Ok-text.ensures.0 in
    let good : IsUtf8 line = c.in-Ok-text.ensures.1 in
    let row : IsRowBeside (is_null null line) list at.added.texts line c.entry_beside.new.added.texts c.in_ok-entry.entry =
    subst (λ (t : Text). IsRowBeside (is_null null t) list at.added.texts t c.entry_beside.new.added.texts c.in_ok-entry.entry) same c.in_ok-entry.ensures in
    let grown = pushed c.push.result c.push.new.self.items _ _ c.push.ensures.items (sym c.is_err.ensures.value ∙ c.if-is_err.false) in
    block_push null list c.args.bytes.now at.lines at.added.texts at.entries.items line c.next_line.new.self c.entry_beside.new.added.texts c.in_ok-entry.entry c.push.new.self.items at.invariant c.in-Some.ensures.lines good row grown

pub returns-clause-block : goal.returns-clause-block
returns-clause-block g c =
    let at = c.loop-line in
    let list = c.args.rodeo.now.texts in
    subst (λ (ts : List Text). IsBlock (word_of c.args.null) list (lines_of c.args.bytes.now) ts at.entries.items true) (sym c.into_reader-2.ensures)
    (block_ends (word_of c.args.null) list c.args.bytes.now at.lines at.added.texts at.entries.items at.invariant c.in_default-next_line.ensures.lines)
