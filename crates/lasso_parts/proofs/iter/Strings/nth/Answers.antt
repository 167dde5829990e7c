use Rattle.std.proofs.Common.{ap, ◌∙◌}
use Rattle.lasso_parts.specs.Entries.{entry_text}
use Rattle.lasso_parts.proofs.Walks.{shown_text, no_text}
use Rattle.lasso_parts.proofs.iter.Strings.nth.Goals as goal

pub returns-then-n-entries-clause-text : goal.returns-then-n-entries-clause-text
returns-then-n-entries-clause-text g c = shown_text (entry_text c.self.inside.regions.now c.self.inside.vast.now) c.self.inside.entries.now c.args.self.now c.args.n _ c.text_of-text.result.now c.self.view_is c.if-n-entries.true (c.text_of-text.ensures ∙ ap (entry_text c.self.inside.regions.now c.self.inside.vast.now) c.index-entries-n.is)

pub returns-else-n-entries-clause-text : goal.returns-else-n-entries-clause-text
returns-else-n-entries-clause-text g c = no_text (entry_text c.self.inside.regions.now c.self.inside.vast.now) c.self.inside.entries.now c.args.self.now c.args.n c.self.view_is c.if-n-entries.false
