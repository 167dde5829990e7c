use Rattle.std.proofs.Common.{◌∙◌, ap}
use Rattle.lasso_codes.specs.Merge.{recoded}
use Rattle.lasso_codes.proofs.MergedColumns.{code_rewritten, code_past}
use Rattle.lasso_codes.proofs.merge.number_at.Goals as goal

pub returns-then-code-table : goal.returns-then-code-table
returns-then-code-table c = λ list texts are few.
    ap (λ entry. recoded list texts entry c.args.number) c.in-Code.is ∙ code_rewritten list texts c.args.table.now c.in-Code.code c.args.number are few c.if-code-table.true

pub returns-else-code-table : goal.returns-else-code-table
returns-else-code-table c = λ list texts are few.
    ap (λ entry. recoded list texts entry c.args.number) c.in-Code.is ∙ code_past list texts c.args.table.now c.in-Code.code c.args.number are c.if-code-table.false
