use Rattle.lasso_columns.specs.Rows.{word_of, EncodesRows}
use Rattle.lasso_columns.specs.Texts.{texts_by}
use Rattle.lasso_columns.specs.declared.line_texts.LineTexts.TheVariants.{OfBytes}
use Rattle.lasso_input.specs.Lines.{lines_of}
use Rattle.lasso_codes.specs.Encode.{StopsEncoding}
use Rattle.std.proofs.Common.{[], ◌∙◌, subst}
use Rattle.lasso_codes.proofs.EncodedStream.{err_then, ok_both, rows_interned, rows_numbered, stream_fails}
use Rattle.lasso_codes.proofs.encode.number_lines.Goals as goal

pub returns-clause-numbered : goal.returns-clause-numbered
returns-clause-numbered g c = ok_both c.encode_stream.result c.encode_stream.ensures.rows c.encode_stream.ensures.bytes (λ rows all bytes e.
    let null = word_of c.args.null in
    let told = subst (λ w. EncodesRows w c.args.rodeo.now (texts_by (OfBytes c.args.settings.only_utf8) (lines_of bytes)) [] c.args.numbers.now.items c.encode_stream.new.rodeo c.encode_stream.new.entries.items) (c.text_bytes-word.ensures ∙ c.in_ok-text.ensures.text) (rows bytes e) in
    rows_numbered bytes c.args.settings.only_utf8 null c.args.rodeo.now c.encode_stream.new.rodeo c.args.numbers.now.items c.encode_stream.new.entries.items c.in_ok-text.ensures.bytes (all bytes e) c.requires.no_numbers c.requires.no_texts told)

pub returns-clause-interned : goal.returns-clause-interned
returns-clause-interned g c = ok_both c.encode_stream.result c.encode_stream.ensures.rows c.encode_stream.ensures.bytes (λ rows all bytes e.
    let null = word_of c.args.null in
    let told = subst (λ w. EncodesRows w c.args.rodeo.now (texts_by (OfBytes c.args.settings.only_utf8) (lines_of bytes)) [] c.args.numbers.now.items c.encode_stream.new.rodeo c.encode_stream.new.entries.items) (c.text_bytes-word.ensures ∙ c.in_ok-text.ensures.text) (rows bytes e) in
    rows_interned bytes c.args.settings.only_utf8 null c.args.rodeo.now c.encode_stream.new.rodeo c.args.numbers.now.items c.encode_stream.new.entries.items c.in_ok-text.ensures.bytes (all bytes e) c.requires.no_numbers told)

pub returns-clause-error : goal.returns-clause-error
returns-clause-error g c = err_then c.encode_stream.result c.encode_stream.ensures.stops (λ error stops bytes e limit made.
    let null = word_of c.args.null in
    let told = subst (λ w. StopsEncoding c.args.settings.only_utf8 w c.args.rodeo.now (lines_of bytes) c.args.numbers.now.items c.encode_stream.new.rodeo c.encode_stream.new.entries c.encode_stream.new.self.left error) (c.text_bytes-word.ensures ∙ c.in_ok-text.ensures.text) (stops bytes e) in
    stream_fails c.args.settings.only_utf8 null c.args.rodeo.now c.encode_stream.new.rodeo (lines_of bytes) c.args.numbers.now.items c.encode_stream.new.entries limit c.encode_stream.new.self.left error c.in_ok-text.ensures.bytes c.requires.no_numbers made told)
