use Rattle.std.proofs.Common.{ap, subst, List}
use mathlib.Core.List.{IsPrefix}
use Rattle.lasso_log.specs.Notes.{NoteView}
use Rattle.lasso_log.proofs.Logs.{either_begins, tails}
use Rattle.lasso_log.proofs.log.pass.Pass.prove_comparable.Goals as goal

pub returns : goal.returns
returns g c =
    let both = c.learn.new.self.log in
    let one : IsPrefix c.self.inside.seen.log both = subst (λ (l : List NoteView). IsPrefix l both) (ap (λ s. s.log) c.again-both.ensures) c.learn.ensures.2 in
    let a = tails c.self.inside.seen.log both c.self.invariant.3 one in
    let b = tails c.other.inside.seen.log both c.other.invariant.3 c.learn.ensures.3 in
    rw (← c.self.view_is, ← c.other.view_is) (either_begins _ _ _ a.2 b.2)
