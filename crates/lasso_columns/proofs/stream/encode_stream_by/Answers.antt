use Rattle.std.proofs.Common.{◌∙◌, [], refl, sym, subst, arith}
use Rattle.lasso_input.specs.Lines.{lines_of}
use Rattle.lasso_columns.specs.Rows.{word_of}
use Rattle.lasso_columns.specs.Texts.{texts_by}
use Rattle.lasso_columns.proofs.EncodedRows.{rows_begin}
use Rattle.lasso_columns.proofs.Streamed.{Streamed, stream_begins, stream_bytes, stream_next, stream_rows, stream_stops, stream_used}
use Rattle.lasso_columns.proofs.TextLines.{bytes_none, texts_none, unread_all}
use Rattle.lasso_columns.proofs.stream.encode_stream_by.Goals as goal

pub returns-in-Err-clause-stops : goal.returns-in-Err-clause-stops
returns-in-Err-clause-stops g c = λ bytes known.
    let null = word_of c.args.null in
    let none = rows_begin null c.args.rodeo.now (texts_by c.args.by []) [] c.args.entries.now.items (sym (texts_none c.args.by)) in
    ([], lines_of bytes, refl, bytes_none c.args.by, (none, unread_all c.args.by c.in-Err.error (g.I.Read.remaining c.new.new.input) bytes (c.in-Err.ensures.kept ∙ known)))

pub loop-goes_on-init : goal.loop-goes_on-init
loop-goes_on-init g c = record {
  stream = λ bytes known. stream_begins c.args.by (word_of c.args.null) c.args.rodeo.now (lines_of bytes) c.args.entries.now.items c.in-Ok.encoder (g.I.Read.remaining c.new.new.input) (c.in-Ok.ensures.left bytes known);
  by = c.in-Ok.ensures.by;
  start = c.len-start.ensures ∙ c.args.entries.now.ok.0;
}

pub returns-in-Err-encode_round-clause-stops : goal.returns-in-Err-encode_round-clause-stops
returns-in-Err-encode_round-clause-stops g c = rw (c.at_line.ensures) (λ bytes known.
    let null = word_of c.args.null in
    let at = c.loop-goes_on in
    let round = c.encode_round in
    let left = g.I.Read.remaining at.input in
    let so_far = subst (λ b. Streamed b c.args.by null c.args.rodeo.now (lines_of bytes) c.args.entries.now.items at.rodeo at.entries.items at.encoder left) c.loop-goes_on-test.true (at.invariant.stream bytes known) in
    stream_stops c.args.by null c.args.rodeo.now at.rodeo round.new.rodeo (lines_of bytes) c.args.entries.now.items at.entries.items at.encoder left so_far at.invariant.by round.new.entries (g.I.Read.remaining round.new.input) c.in-Err-encode_round.error _ c.in-Err-encode_round.ensures.stops (omega (arith, c.saturating_sub.ensures, c.len.ensures, at.invariant.start)))

pub loop-goes_on-preserved : goal.loop-goes_on-preserved
loop-goes_on-preserved g c =
    let null = word_of c.args.null in
    let at = c.loop-goes_on in
    let round = c.encode_round in
    let left = g.I.Read.remaining at.input in
    record {
      stream = λ bytes known.
          let so_far = subst (λ b. Streamed b c.args.by null c.args.rodeo.now (lines_of bytes) c.args.entries.now.items at.rodeo at.entries.items at.encoder left) c.loop-goes_on-test.true (at.invariant.stream bytes known) in
          stream_next c.args.by null c.args.rodeo.now at.rodeo round.new.rodeo (lines_of bytes) c.args.entries.now.items at.entries.items at.encoder left so_far at.invariant.by round.new.entries.items c.in-Ok-encode_round.goes_on round.new.self (g.I.Read.remaining round.new.input) c.in-Ok-encode_round.ensures.rows;
      by = round.ensures.by ∙ at.invariant.by;
      start = at.invariant.start;
    }

pub returns-clause-rows : goal.returns-clause-rows
returns-clause-rows g c = λ bytes known.
    let null = word_of c.args.null in
    let at = c.loop-goes_on in
    let left = g.I.Read.remaining at.input in
    let so_far = subst (λ b. Streamed b c.args.by null c.args.rodeo.now (lines_of bytes) c.args.entries.now.items at.rodeo at.entries.items at.encoder left) c.loop-goes_on-test.false (at.invariant.stream bytes known) in
    stream_rows c.args.by null c.args.rodeo.now at.rodeo (lines_of bytes) c.args.entries.now.items at.entries.items at.encoder left so_far

pub returns-clause-bytes : goal.returns-clause-bytes
returns-clause-bytes g c = λ bytes known.
    let null = word_of c.args.null in
    let at = c.loop-goes_on in
    let left = g.I.Read.remaining at.input in
    let so_far = subst (λ b. Streamed b c.args.by null c.args.rodeo.now (lines_of bytes) c.args.entries.now.items at.rodeo at.entries.items at.encoder left) c.loop-goes_on-test.false (at.invariant.stream bytes known) in
    stream_bytes c.args.by null c.args.rodeo.now at.rodeo (lines_of bytes) c.args.entries.now.items at.entries.items at.encoder left so_far

pub returns-clause-end : goal.returns-clause-end
returns-clause-end g c = λ bytes known.
    let null = word_of c.args.null in
    let at = c.loop-goes_on in
    let left = g.I.Read.remaining at.input in
    let so_far = subst (λ b. Streamed b c.args.by null c.args.rodeo.now (lines_of bytes) c.args.entries.now.items at.rodeo at.entries.items at.encoder left) c.loop-goes_on-test.false (at.invariant.stream bytes known) in
    stream_used c.args.by null c.args.rodeo.now at.rodeo (lines_of bytes) c.args.entries.now.items at.entries.items at.encoder left so_far
