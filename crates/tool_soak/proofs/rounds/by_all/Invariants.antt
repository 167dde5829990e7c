use Rattle.std.proofs.Common.{◌≡◌}
use Rattle.tool_soak.proofs.rounds.by_all.Given as goal

-- the pass stays one of the interner
abbrev pub invariant-loop-thread : goal.invariant-loop-thread
invariant-loop-thread g l = l.pass.of ≡ l.rodeo
