use Rattle.std.proofs.Common.{◌≡◌, ◌++◌, length}
use Rattle.lasso_lines.specs.Stream.{OnlyGrows, Writes}
use Rattle.lasso_lines.proofs.answers.write_all.Given as goal

abbrev pub invariant-loop-rest : goal.invariant-loop-rest
invariant-loop-rest g l =
    let writer = g.O.ByteWriter in
    record {
      failures : writer.failures l.writer ≡ writer.failures l.fn.writer;
      delivered : OnlyGrows (writer.delivered l.fn.writer) (writer.delivered l.writer);
      bytes : Writes writer.delivered writer.pending l.fn.writer l.writer (λ part. part ++ l.rest ≡ l.fn.bytes);
    }

abbrev pub decreases-loop-rest : goal.decreases-loop-rest
decreases-loop-rest g l = length l.rest
