use Rattle.std.proofs.Common.{◌≡◌, ◌≤◌}
use Rattle.std.specs.Prelude.{vec_capacity, vec_len}
use Rattle.lasso_log.proofs.chunks.new_chunk.Given as goal

abbrev pub invariant-loop : goal.invariant-loop
invariant-loop g l = (l.counter ≤ l.cells) × (l.cells ≤ vec_capacity l.chunk) × (vec_len l.chunk ≡ l.counter)
