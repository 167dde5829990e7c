use Rattle.lasso_single.proofs.Copied.{CopiedTo}
use Rattle.lasso_single.proofs.list_copies.copy_all.Given as goal

abbrev pub invariant-loop-position : goal.invariant-loop-position
invariant-loop-position g l = CopiedTo (g.C.CopyTarget.holds l.initial.target) (g.T.Texts.list l.texts) l.position (g.C.CopyTarget.holds l.target)
