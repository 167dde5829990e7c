use Rattle.lasso_single.proofs.Copied.{CopiedTo}
use Rattle.lasso_shared.proofs.threaded.freezing.copy_of.Given as goal

-- the texts so far were interned
abbrev pub invariant-loop-position : goal.invariant-loop-position
invariant-loop-position g l = CopiedTo l.initial.copy (g.T.Texts.list l.texts) l.position l.copy
