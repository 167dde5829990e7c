use Rattle.lasso_input.specs.Lines.{lines_of}
use Rattle.lasso_columns.specs.Rows.{word_of}
use Rattle.lasso_columns.proofs.TextLines.{err_then, stops_own}
use Rattle.lasso_columns.proofs.stream.encode_stream.Goals as goal

pub returns-clause-stops : goal.returns-clause-stops
returns-clause-stops g c =
    err_then c.encode_stream_by.result c.encode_stream_by.ensures.stops (λ error stops bytes known.
    stops_own (word_of c.args.null) c.args.rodeo.now (lines_of bytes) c.args.entries.now.items c.encode_stream_by.new.rodeo c.encode_stream_by.new.entries (g.I.Read.remaining c.encode_stream_by.new.input) error (stops bytes known))
