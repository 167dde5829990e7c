use Rattle.std.proofs.Common.{ℕ, ◌∷◌, ◌++◌, ◌∙◌, [], List, ap, sym, subst}
use Rattle.std.proofs.lemmas.List.Elements.{Contains-push}
use Rattle.lasso_log.specs.Views.{list_of, seen}
use Rattle.lasso_single.specs.Codes.{AreCodes}
use Rattle.lasso_lines.proofs.Listed.{call_grows}
use Rattle.lasso_lines.proofs.SharedCalls.{shared_push, shared_refused}
use Rattle.lasso_lines.proofs.shares.intern_line.Goals as goal

pub returns-in-Ok-push-clause-coded : goal.returns-in-Ok-push-clause-coded
returns-in-Ok-push-clause-coded g c = λ texts are.
    let list = list_of c.args.rodeo.now c.try_get_or_intern_as.new.pass.notes in
    let more = shared_push c.args.rodeo.now.opening (seen c.args.pass.now) (seen c.try_get_or_intern_as.new.pass) c.args.pass.now.number texts c.args.line.now c.args.codes.now.items c.in-Ok.key are c.in-Ok.ensures.call in
    let put = c.in-Ok-push.ensures.items ∙ ap (λ code. c.args.codes.now.items ++ code ∷ []) c.into_position-position.ensures.position in
    subst (λ (cs : List ℕ). AreCodes list (texts ++ c.args.line.now ∷ []) cs) (sym put) more

pub returns-in-Err-clause-reason : goal.returns-in-Err-clause-reason
returns-in-Err-clause-reason g c =
    let line = c.args.line.now in
    shared_refused c.args.rodeo.now.opening (seen c.args.pass.now) (seen c.try_get_or_intern_as.new.pass) c.args.pass.now.number (line ∷ []) line c.in-Err.error (Contains-push [] line) c.in-Err.ensures.call

-- the list that the pass has seen only grows
pub returns-in-Err-clause-grows : goal.returns-in-Err-clause-grows
returns-in-Err-clause-grows g c = call_grows _ _ _ _ _ _ c.in-Err.ensures.call

pub returns-in-Ok-push-clause-grows : goal.returns-in-Ok-push-clause-grows
returns-in-Ok-push-clause-grows g c = call_grows _ _ _ _ _ _ c.in-Ok.ensures.call

pub returns-in-Err-push-clause-grows : goal.returns-in-Err-push-clause-grows
returns-in-Err-push-clause-grows g c = call_grows _ _ _ _ _ _ c.in-Ok.ensures.call
