use Rattle.std.proofs.Common.{inr, map, Err, subst}
use Rattle.std.proofs.lemmas.Result.{err_from_is_err_and}
use Rattle.lasso_shared.specs.Filling.{IsPlainFilling}
use Rattle.lasso_log.specs.History.{Totals}
use Rattle.lasso_shared.proofs.threaded.ThreadedRodeo.from_iter.Goals as goal

pub returns-in_err-extend-clause-refused : goal.returns-in_err-extend-clause-refused
returns-in_err-extend-clause-refused g c =
    let told = c.in_err-extend.ensures.refused in
    let error = c.in_err-extend.field-0.0 in
    let filling = subst (λ (o : Totals). IsPlainFilling g.K.Key.key_at o (map g.T.AsStr.text told.1) (Err error)) c.in_ok-shared.ensures.opening told.4 in
    let p = err_from_is_err_and c.from_residual-in_err-extend.result c.from_residual-in_err-extend.ensures.1 in
    rw (p.1, p.2) (inr (told.0, told.1, told.2, told.3, filling))
