use Rattle.std.proofs.Common.{sym, ◌∙◌, ap, Some, List, ℕ}
use Rattle.lasso_log.specs.Notes.{texts_in}
use Rattle.lasso_log.proofs.Lengths.{only_grows}
use Rattle.lasso_log.proofs.Reading.{get_is}
use Rattle.lasso_log.proofs.log.shared_log.Log.lend.Goals as goal

pub lend-piece-requires-clause-grows : goal.lend-piece-requires-clause-grows
lend-piece-requires-clause-grows g c = only_grows

pub returns : goal.returns
returns g c = record { text = get_is (texts_in c.args.seen.now.log) c.args.position c.requires.below ∙ ap (λ (t : List ℕ). Some t) (sym (c.text.ensures ∙ c.lend-piece.ensures.text)) }
