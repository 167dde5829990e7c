use Rattle.std.proofs.Common.{◌≡◌}
use Rattle.lasso_shared.proofs.shards.guesses.Guesses.ask_hints.Given as goal

-- the pass stays the same
abbrev pub invariant-loop-place : goal.invariant-loop-place
invariant-loop-place g l = l.pass ≡ l.fn.pass
