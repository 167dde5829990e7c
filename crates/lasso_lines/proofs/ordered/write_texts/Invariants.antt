use Rattle.std.proofs.Common.{◌≡◌, map, take}
use Rattle.lasso_lines.specs.Ordered.{told}
use Rattle.lasso_lines.specs.Stream.{OnlyGrows, Writes}
use Rattle.lasso_lines.proofs.ordered.write_texts.Given as goal

-- the texts before the index are written, and no call of the writer has failed
abbrev pub invariant-lines : goal.invariant-lines
invariant-lines g l =
    let writer = g.O.ByteWriter in
    record {
      writes : writer.failures l.writer ≡ writer.failures l.fn.writer;
      delivered : OnlyGrows (writer.delivered l.fn.writer) (writer.delivered l.writer);
      texts : Writes writer.delivered writer.pending l.fn.writer l.writer (λ part. part ≡ told (take l.text-index (map (λ p. p.1.now) l.texts)));
    }
