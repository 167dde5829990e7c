use Rattle.std.proofs.Common.{sym, ◌∙◌}
use Rattle.lasso_shared.proofs.Walked.{pairs_left}
use Rattle.lasso_shared.proofs.threaded.walking.IterExactSizeIterator.len.Goals as goal

pub returns-clause-value : goal.returns-clause-value
returns-clause-value g c = c.len.ensures.value ∙ sym (pairs_left g.K.Key.key_at c.self.inside.first c.self.inside.strings c.args.self.now c.self.view_is c.self.invariant.1)
