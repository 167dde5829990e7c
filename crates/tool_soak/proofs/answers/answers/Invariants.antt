use Rattle.std.proofs.Common.{◌≡◌}
use Rattle.tool_soak.proofs.answers.answers.Given as goal

-- the pass stays one of the interner
abbrev pub invariant-loop : goal.invariant-loop
invariant-loop g l = l.pass.of ≡ l.rodeo
