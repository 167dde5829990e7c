use Rattle.std.proofs.Common.{ℕ, take, ap, ◌∙◌, arith}
use Rattle.std.specs.Prelude.{slice_get}
use Rattle.lasso_parts.specs.Entries.{entry_text}
use Rattle.lasso_parts.proofs.Walks.{taken_texts, shown_text, from_back}
use Rattle.lasso_parts.proofs.iter.Strings.nth_back.Goals as goal

pub returns-then-n-entries-clause-rest : goal.returns-then-n-entries-clause-rest
returns-then-n-entries-clause-rest g c =
    taken_texts (entry_text c.self.inside.regions.now c.self.inside.vast.now) c.self.inside.entries.now c.args.self.now _ c.self.view_is
    ∙ ap (λ (k : ℕ). take k c.args.self.now) (from_back (entry_text c.self.inside.regions.now c.self.inside.vast.now) c.self.inside.entries.now c.args.self.now c.args.n c.self.view_is)

pub returns-then-n-entries-clause-text : goal.returns-then-n-entries-clause-text
returns-then-n-entries-clause-text g c = λ _.
    shown_text (entry_text c.self.inside.regions.now c.self.inside.vast.now) c.self.inside.entries.now c.args.self.now _ _ c.text_of.result.now c.self.view_is (omega arith) (c.text_of.ensures ∙ ap (entry_text c.self.inside.regions.now c.self.inside.vast.now) c.index-entries-at.is)
    ∙ ap (slice_get c.args.self.now) (from_back (entry_text c.self.inside.regions.now c.self.inside.vast.now) c.self.inside.entries.now c.args.self.now c.args.n c.self.view_is)
