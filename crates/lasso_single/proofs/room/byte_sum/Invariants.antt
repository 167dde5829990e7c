use Rattle.std.proofs.Common.{◌≡◌, ◌<◌, ◌^◌, take}
use Rattle.lasso_single.specs.Copies.{bytes_of}
use Rattle.lasso_single.proofs.room.byte_sum.Given as goal

abbrev pub invariant-loop-position : goal.invariant-loop-position
invariant-loop-position g l = (l.bytes ≡ bytes_of (take l.position (g.T.Texts.list l.texts))) × (l.bytes < 2 ^ 64)
