use Rattle.std.proofs.Common.{ap, sym, ◌∙◌}
use Rattle.lasso_columns.specs.Rows.{is_null, word_of}
use Rattle.lasso_columns.proofs.EncodedRows.{row_of_null, row_of_text}
use Rattle.lasso_columns.proofs.rows.append_row.Goals as goal

pub returns-then-is_null : goal.returns-then-is_null
returns-then-is_null g c =
    row_of_null (is_null (word_of c.args.null) c.args.text.now) c.args.rodeo.now c.args.text.now c.args.entries.now.items c.push_null.new.entries c.push_null.result (ap (is_null (word_of c.args.null)) (sym c.as_bytes.ensures.value) ∙ sym c.is_null.ensures ∙ c.if-is_null.true) c.push_null.ensures

pub returns : goal.returns
returns g c =
    row_of_text (is_null (word_of c.args.null) c.args.text.now) c.args.rodeo.now c.encode_next.new.rodeo c.args.text.now c.args.entries.now.items c.args.entries.now c.encode_next.new.codes c.encode_next.result (ap (is_null (word_of c.args.null)) (sym c.as_bytes.ensures.value) ∙ sym c.is_null.ensures ∙ c.if-is_null.false) c.encode_next.ensures
