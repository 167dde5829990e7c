use Rattle.std.proofs.Common.{ap, arith}
use Rattle.lasso_parts.specs.Arena.{usage_of}
use Rattle.lasso_single.specs.Interner.{InternerView}
use Rattle.lasso_single.proofs.Cleared.{usage_kept}
use Rattle.lasso_single.proofs.text_list.TextList.clear.Goals as goal

pub returns-clause-usage : goal.returns-clause-usage
returns-clause-usage g c =
    let left = ap usage_of c.clear-3.ensures.kept in
    let less = usage_kept c.self.inside.arena.all in
    let was = ap (λ (i : InternerView). i.account.usage) c.self.view_is in
    omega (arith, left, less, was)
