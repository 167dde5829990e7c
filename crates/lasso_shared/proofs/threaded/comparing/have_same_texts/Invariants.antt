use Rattle.std.proofs.Common.{◌≡◌, ◌<◌, ℕ}
use Rattle.std.specs.Prelude.{slice_get}
use Rattle.lasso_shared.proofs.threaded.comparing.have_same_texts.Given as goal

-- the lists agree at each position so far
abbrev pub invariant-loop-position : goal.invariant-loop-position
invariant-loop-position g l = (k : ℕ) → k < l.position → slice_get (g.T.Texts.list l.one) k ≡ slice_get (g.U.Texts.list l.other) k
