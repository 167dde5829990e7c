use Rattle.std.proofs.Common.{slice_get, sym, ap, ◌∙◌}
use Rattle.lasso_parts.proofs.index.table.enter_again.Goals as goal

pub returns-clause-filed : goal.returns-clause-filed
returns-clause-filed g c = λ filed. c.enter.ensures.filed _ _ _ filed (ap (slice_get _) (sym c.into_usize.ensures) ∙ c.text_at-text.ensures) c.hash_text.ensures
