use Rattle.std.proofs.Common.{◌≡◌, ◌+◌, ◌++◌, [], append-nil, ap, sym, refl, ◌∙◌, arith}
use Rattle.std.proofs.lemmas.Grind.{common_steps}
use Rattle.lasso_lines.proofs.FailedCalls.{none_failed}
use Rattle.lasso_lines.proofs.Known.{took_more, only_grows_then, nothing_more, grows_as, grows_then, begins_split}
use Rattle.lasso_lines.proofs.answers.write_all.Goals as goal

pub loop-rest-preserved : goal.loop-rest-preserved
loop-rest-preserved g c =
    record {
      failures = omega (arith, c.in-Ok.ensures.failures, c.loop-rest.invariant.failures);
      delivered = only_grows_then _ _ _ c.loop-rest.invariant.delivered c.in-Ok.ensures.delivered;
      bytes = took_more _ _ _ _ _ _ c.in-Ok.count c.loop-rest.invariant.bytes c.in-Ok.ensures.written (grind (arith, common_steps));
    }

pub loop-rest-init : goal.loop-rest-init
loop-rest-init g c = record { failures = refl; delivered = nothing_more _ _ tt; bytes = nothing_more _ _ refl }

-- a call failed
pub returns-in-Err-clause-bytes : goal.returns-in-Err-clause-bytes
returns-in-Err-clause-bytes g c =
    grows_then _ _ _ _ _ _ c.loop-rest.invariant.bytes c.in-Err.ensures.written (λ p q whole begins. (refl, begins_split p q c.loop-rest.rest.now c.args.bytes.now whole begins))

pub returns-in-Err-clause-failures : goal.returns-in-Err-clause-failures
returns-in-Err-clause-failures g c = c.in-Err.ensures.failures ∙ ap (λ n. n + 1) c.loop-rest.invariant.failures

pub returns-in-Err-clause-delivered : goal.returns-in-Err-clause-delivered
returns-in-Err-clause-delivered g c = only_grows_then _ _ _ c.loop-rest.invariant.delivered c.in-Err.ensures.delivered

-- no bytes are left
pub returns-clause-bytes : goal.returns-clause-bytes
returns-clause-bytes g c =
    let none : c.loop-rest.rest.now ≡ [] = grind (arith, common_steps) in
    grows_as _ _ _ _ c.loop-rest.invariant.bytes (λ part whole. sym (append-nil part) ∙ ap (λ bs. part ++ bs) (sym none) ∙ whole)

pub returns-clause-failures : goal.returns-clause-failures
returns-clause-failures g c = none_failed _ _ c.loop-rest.invariant.failures

pub returns-clause-delivered : goal.returns-clause-delivered
returns-clause-delivered g c = c.loop-rest.invariant.delivered
