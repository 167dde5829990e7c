use Rattle.std.proofs.Common.{◌≡◌, ◌<◌, ℕ, List, Some}
use Rattle.lasso_lines.specs.Stream.{OnlyGrows, Writes}
use Rattle.lasso_lines.specs.Report.{held_by, first_bytes}
use Rattle.lasso_input.specs.Lines.{NoFeed}
use Rattle.lasso_lines.proofs.Ways.{OnTheWay}
use Rattle.lasso_lines.proofs.engine.answer_input.Given as goal

abbrev pub invariant-stretches : goal.invariant-stretches
invariant-stretches g l =
    let reader = g.I.ByteReader in
    let writer = g.O.ByteWriter in
    record {
      counted : 0 < l.number;
      first : l.rodeo.first ≡ first_bytes;
      reads : reader.failures l.reader ≡ reader.failures l.fn.reader;
      writes : writer.failures l.writer ≡ writer.failures l.fn.writer;
      delivered : OnlyGrows (writer.delivered l.fn.writer) (writer.delivered l.writer);
      no_feed : NoFeed l.begun.items;
      ahead : (input : List ℕ) → reader.left l.fn.reader ≡ Some input → (left : List ℕ) × (reader.left l.reader ≡ Some left)
          × Writes writer.delivered writer.pending l.fn.writer l.writer (OnTheWay input l.fn.limits (held_by l.rodeo) l.number l.begun.items left);
    }
