use Rattle.std.proofs.Common.{◌≡◌, ◌++◌, sym, ap, ◌∙◌, subst}
use Rattle.lasso_log.specs.History.{History, IsLegal}
use Rattle.lasso_log.specs.Notes.{history, notes_of, opening_of}
use Rattle.lasso_log.specs.Views.{SnapshotView}
use Rattle.lasso_log.proofs.Histories.{history_append}
use Rattle.lasso_log.proofs.Legal.{legal_parts}
use Rattle.lasso_log.proofs.Logs.{tails, legal_opened}
use Rattle.lasso_log.proofs.log.snapshot.Snapshot.prove_legal.Goals as goal

-- the log that it learns is legal, and begins with its own
pub returns-clause-legal : goal.returns-clause-legal
returns-clause-legal g c =
    let mine = c.self.inside.seen.log in
    let both = c.learn.new.self.log in
    let t = tails mine both c.self.invariant c.learn.ensures.3 in
    let legal : IsLegal g.K.Key.key_at (opening_of mine) (history (notes_of both)) = legal_opened g.K.Key.key_at mine both c.self.invariant c.learn.ensures.3 c.learn.ensures.4 in
    let whole : history (notes_of mine) ++ history t.2.0 ≡ history (notes_of both) = sym (history_append (notes_of mine) t.2.0) ∙ ap history t.2.1 in
    let own = (legal_parts g.K.Key.key_at (opening_of mine) (history (notes_of mine)) (history t.2.0) (subst (λ (h : History). IsLegal g.K.Key.key_at (opening_of mine) h) (sym whole) legal)).0 in
    subst (λ (k : SnapshotView). IsLegal g.K.Key.key_at k.of.opening (history k.notes)) c.self.view_is own
