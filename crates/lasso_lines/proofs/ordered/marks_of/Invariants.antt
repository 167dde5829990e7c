use Rattle.std.proofs.Common.{◌≡◌, length, take}
use Rattle.lasso_lines.proofs.Chosen.{AreMarks}
use Rattle.lasso_lines.proofs.ordered.marks_of.Given as goal

-- the codes before the index are marked, and no others
abbrev pub invariant-loop-code : goal.invariant-loop-code
invariant-loop-code l = record { long : length l.marks.items ≡ l.len; marks : AreMarks l.marks.items (take l.code-index l.codes) }
