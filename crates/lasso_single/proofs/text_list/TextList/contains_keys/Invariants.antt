use Rattle.std.proofs.Common.{◌≡◌, ◌<◌, ℕ, Some, length}
use Rattle.std.specs.Prelude.{slice_get}
use Rattle.lasso_single.proofs.text_list.TextList.contains_keys.Given as goal

-- the keys before the index stand for texts
abbrev pub invariant-loop-i : goal.invariant-loop-i
invariant-loop-i g l = (j : ℕ) (key : g.row.K.Denot) → j < l.i → slice_get l.keys j ≡ Some key → g.K.Key.number key < length l.self.texts
