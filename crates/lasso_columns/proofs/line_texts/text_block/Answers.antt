use Rattle.lasso_columns.proofs.TextLines.{texts_push}
use Rattle.lasso_columns.proofs.line_texts.text_block.Goals as goal

pub loop-line-preserved : goal.loop-line-preserved
loop-line-preserved c =
    let at = c.loop-line in
    texts_push c.args.only_utf8 c.args.bytes.now at.lines at.texts.items c.in-Some.line c.next_line.new.self c.append_text.new.texts.items c.push.new.self.items at.invariant c.in-Some.ensures.lines c.in_ok-append_text.ensures c.in_ok-push.ensures.items
