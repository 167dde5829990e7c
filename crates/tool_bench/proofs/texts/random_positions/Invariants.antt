use Rattle.std.proofs.Common.{◌≡◌, ◌<◌, vec_len}
use Rattle.std.specs.Prelude.{All}
use Rattle.tool_bench.proofs.texts.random_positions.Given as goal

-- each turn adds one position, and all are below the count
abbrev pub invariant-loop : goal.invariant-loop
invariant-loop l = record { as_many : vec_len l.positions ≡ l.counter; below : All (λ position. position < l.count) l.positions.items }
