use Rattle.std.specs.Io.Buffered.{writer_contents}
use Rattle.std.specs.Io.KnownBytes.{Keeps}
use Rattle.lasso_codes.proofs.streams.write_some.Given as goal

-- nothing was written yet
abbrev pub invariant-loop : goal.invariant-loop
invariant-loop g l = Keeps (writer_contents g.W.Write.contents l.fn.inner) (writer_contents g.W.Write.contents l.inner)
