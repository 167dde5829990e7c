use Rattle.std.proofs.Common.{◌+◌, ◌∷◌, ◌++◌, [], ap, arith, ◌∙◌}
use Rattle.lasso_single.proofs.coding.encode_next.Goals as goal

pub returns : goal.returns
returns g c =
    let code = c.in_ok-code.code in
    let put = c.in_ok-push.ensures.items ∙ ap (λ cs. cs ++ code ∷ []) c.in_ok-reserve.ensures.items in
    ((code + 1, c.in_ok-code.ensures.interns), (code, c.in_ok-code.ensures.code, put), omega (arith, c.in_ok-reserve.ensures.capacity, c.in_ok-push.ensures.capacity))
