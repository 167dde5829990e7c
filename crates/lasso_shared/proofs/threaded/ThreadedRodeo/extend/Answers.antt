use Rattle.std.proofs.Common.{map}
use Rattle.std.proofs.lemmas.Result.{MatchResult-weaker}
use Rattle.lasso_shared.proofs.Filled.{filling_all, filling_refused}
use Rattle.lasso_shared.proofs.threaded.ThreadedRodeo.extend.Goals as goal

pub returns-clause-filled : goal.returns-clause-filled
returns-clause-filled g c = MatchResult-weaker c.extend_as.result c.extend_as.ensures.filled
    (λ done told.
    let filling = filling_all g.K.Key.key_at c.args.self.now.opening (map g.T.AsStr.text told.0) c.pass-pass.result c.extend_as.new.pass c.pass-pass.ensures.notes told.2 c.extend_as.ensures.legal in
    (c.into_iter-items.result, told.0, c.into_iter-items.ensures.into_iter_gives, (c.extend_as.new.items, told.1), filling))
    (λ error none. tt)

pub returns-clause-refused : goal.returns-clause-refused
returns-clause-refused g c = MatchResult-weaker c.extend_as.result c.extend_as.ensures.refused
    (λ done none. tt)
    (λ error told.
    let filling = filling_refused g.K.Key.key_at c.args.self.now.opening (map g.T.AsStr.text told.0) error c.pass-pass.result c.extend_as.new.pass c.pass-pass.ensures.notes told.2 c.extend_as.ensures.legal in
    (c.into_iter-items.result, told.0, c.into_iter-items.ensures.into_iter_gives, (c.extend_as.new.items, told.1), filling))
