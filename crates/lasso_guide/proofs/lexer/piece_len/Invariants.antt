use Rattle.std.proofs.Common.{ℕ, ◌≡◌, ◌-◌, ◌<◌, ◌≤◌, length, get_or, true}
use Rattle.lasso_guide.specs.Lexing.{continues}
use Rattle.lasso_guide.proofs.lexer.piece_len.Given as goal

-- the piece has gone on up to here
abbrev pub invariant-loop-len : goal.invariant-loop-len
invariant-loop-len l = record { some : 0 < l.len; within : l.len ≤ length l.bytes; inside : (i : ℕ) → 0 < i → i < l.len → continues l.kind (get_or l.bytes i 0) ≡ true }

abbrev pub decreases-loop-len : goal.decreases-loop-len
decreases-loop-len l = length l.bytes - l.len
