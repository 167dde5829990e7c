use Rattle.std.proofs.Common.{List, ap, ◌∙◌}
use Rattle.lasso_parts.specs.Texts.{Text}
use Rattle.lasso_parts.specs.Layout.{layout_texts}
use Rattle.lasso_c.specs.Layout.{over}
use Rattle.lasso_c.specs.Encoding.{with_all_new}
use Rattle.lasso_c.proofs.Rows.{plain_texts, plain_codes}
use Rattle.lasso_c.proofs.batches.intern_layout.Goals as goal

pub returns-clause-texts : goal.returns-clause-texts
returns-clause-texts g c =
    c.intern_column.ensures.texts ∙ ap (λ (ts : List Text). with_all_new c.args.dictionary.now.texts ts) (plain_texts c.intern_column.result.done 0 (layout_texts c.args.bytes.now (g.O.Offset.numbers c.args.offsets.now)))

pub returns-clause-codes : goal.returns-clause-codes
returns-clause-codes g c =
    c.intern_column.ensures.codes ∙ ap (λ cs. over cs c.args.codes.now) (plain_codes 0 c.intern_column.result.done 0 c.intern_column.new.dictionary.texts (layout_texts c.args.bytes.now (g.O.Offset.numbers c.args.offsets.now)))
