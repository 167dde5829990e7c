use Rattle.lasso_columns.proofs.TextLines.{ascii_own, own_push}
use Rattle.lasso_columns.proofs.line_texts.are_own_texts.Goals as goal

pub returns-then-is_ascii-clause-own : goal.returns-then-is_ascii-clause-own
returns-then-is_ascii-clause-own c = λ only yes. ascii_own c.args.bytes.now only c.if-is_ascii.ensures.cases

pub loop-line-preserved : goal.loop-line-preserved
loop-line-preserved c = own_push c.args.bytes.now c.loop-line.lines c.in-Some.line c.next_line.new.self c.loop-line.invariant c.in-Some.ensures.lines c.in-Some-own_text.ensures.1
