use Rattle.std.proofs.Common.{refl, sym, subst, ap, ◌∙◌, ◌+◌, length}
use Rattle.lasso_input.specs.Lines.{lines_of}
use Rattle.lasso_columns.specs.Rows.{word_of}
use Rattle.lasso_columns.specs.Streams.{StopsInStreamBy}
use Rattle.lasso_columns.specs.declared.line_texts.LineTexts.TheVariants.{OfBytes}
use Rattle.lasso_codes.proofs.EncodedStream.{library_line, library_read}
use Rattle.lasso_codes.proofs.streams.Input.encode_stream.Goals as goal
