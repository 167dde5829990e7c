use Rattle.std.proofs.Common.{◌≡◌, length}
use Rattle.std.specs.Io.Buffered.{reader_remaining}
use Rattle.std.specs.Io.KnownBytes.{Keeps}
use Rattle.lasso_codes.proofs.streams.read_byte.Given as goal

-- nothing was read yet
abbrev pub invariant-loop : goal.invariant-loop
invariant-loop g l = Keeps (reader_remaining g.R.Read.remaining l.fn.inner) (reader_remaining g.R.Read.remaining l.inner) × (length l.byte ≡ 1)
