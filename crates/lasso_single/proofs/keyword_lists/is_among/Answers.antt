-- A search through the texts that are lent is one through their list.
use Rattle.std.proofs.Common.{is_some, ap, sym, ◌∙◌}
use Rattle.std.specs.Str.{bytes_eq}
use Rattle.lasso_parts.proofs.TextLemmas.{position_map}
use Rattle.lasso_single.proofs.Distinct.{any_found}
use Rattle.lasso_single.proofs.keyword_lists.is_among.Goals as goal

pub returns : goal.returns
returns c =
    c.contains.ensures.value ∙ any_found (λ t. bytes_eq t.now c.args.keyword.now) c.args.keywords.now ∙ ap is_some (sym (position_map (λ t. bytes_eq t c.args.keyword.now) (λ t. t.now) c.args.keywords.now))
