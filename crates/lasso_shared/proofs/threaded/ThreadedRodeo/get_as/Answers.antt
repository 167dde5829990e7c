use Rattle.std.proofs.Common.{◌∙◌, ap, subst}
use Rattle.lasso_log.specs.History.{IsLegal, IsOpening, Totals}
use Rattle.lasso_log.specs.Replies.{Get, Found}
use Rattle.lasso_log.specs.Views.{InternerId, seen}
use Rattle.lasso_shared.specs.PassCalls.{IsPassCall}
use Rattle.lasso_shared.proofs.MomentFacts.{found_absent, found_idle}
use Rattle.lasso_shared.proofs.PassFacts.{found_key, seen_found}
use Rattle.lasso_shared.proofs.threaded.ThreadedRodeo.get_as.Goals as goal

pub returns-clause-key : goal.returns-clause-key
returns-clause-key g c = rw (← c.self.view_is) (found_key g.K.Key.key_at _ _ _ _ _ _ c.get-found.ensures.call)

pub returns-clause-present : goal.returns-clause-present
returns-clause-present g c = rw (← c.self.view_is) (seen_found g.K.Key.key_at g.K.Key.number (λ n k e. (g.met.K.Key.made n k e).2) _ _ _ _ _ _ c.get-found.ensures.call)

-- what the pass has then seen is of this interner
pub returns-clause-absent : goal.returns-clause-absent
returns-clause-absent g c none =
    let after = c.get-found.new.pass in
    let of = ap (λ (i : InternerId). i.opening) (c.get-found.ensures.same.1 ∙ c.requires) in
    let opens = subst (λ (o : Totals). IsOpening g.K.Key.key_at o) of c.prove_legal.ensures.opening in
    let legal = subst (λ (o : Totals). IsLegal g.K.Key.key_at o (seen after)) of c.prove_legal.ensures.legal in
    let call : IsPassCall g.K.Key.key_at c.args.self.now c.args.pass.now after (Get c.args.text.now) (Found c.get-found.result) = rw (← c.self.view_is) c.get-found.ensures.call in
    found_absent g.K.Key.key_at _ _ _ _ opens legal _ _ call none

pub returns-clause-idle : goal.returns-clause-idle
returns-clause-idle g c = found_idle g.K.Key.key_at _ _ _ _ _ _ c.get-found.ensures.call
