use Rattle.std.proofs.Common.{ℕ, ◌≡◌, ◌<◌, List, ◌∷◌, ◌++◌, length}
use Rattle.lasso_input.specs.Lines.{NoFeed}
use Rattle.lasso_lines.specs.Stream.{OnlyGrows, Writes}
use Rattle.lasso_lines.specs.Report.{held_by, first_bytes}
use Rattle.lasso_lines.specs.Stretch.{LeadsTo}
use Rattle.lasso_lines.proofs.stretches.answer_lines.Given as goal

-- the lines before this number were answered, `line` is next, and `lines` has those after it
abbrev pub invariant-lines : goal.invariant-lines
invariant-lines g l =
    let writer = g.O.ByteWriter in
    record {
      counted : 0 < l.number;
      no_feed : NoFeed l.line;
      rest : (front : List ℕ) × (l.fn.stretch ≡ front ++ l.lines);
      first : l.rodeo.first ≡ first_bytes;
      failures : writer.failures l.writer ≡ writer.failures l.fn.writer;
      delivered : OnlyGrows (writer.delivered l.fn.writer) (writer.delivered l.writer);
      answers : Writes writer.delivered writer.pending l.fn.writer l.writer (LeadsTo (held_by l.fn.rodeo) l.fn.number (l.fn.first ++ 10 ∷ l.fn.stretch) (held_by l.rodeo) l.number (l.line ++ 10 ∷ l.lines));
    }

abbrev pub decreases-lines : goal.decreases-lines
decreases-lines g l = length l.lines
