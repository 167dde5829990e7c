-- The list that was read is distinct and fits the keys, and the interner opens with it. An error is a fault
-- of the value or `FailedAllocation`. A value that was written for a list has no fault, and the list that is
-- read from it is that one.
use Rattle.std.proofs.Common.{◌⊎◌, inl, inr, map, refl}
use Rattle.std.proofs.lemmas.Result.{err_from_is_err_and}
use Rattle.serde_json.specs.View.{view}
use Rattle.lasso_parts.specs.Json.{TakesText}
use Rattle.lasso_parts.specs.JsonObjects.{TakesPosition}
use Rattle.lasso_shared.proofs.ReadList.{read_back, one_reading, only_memory}
use Rattle.lasso_shared.proofs.threaded.ThreadedRodeo.deserialize.Goals as goal

pub of_texts-requires-clause-distinct : goal.of_texts-requires-clause-distinct
of_texts-requires-clause-distinct g c = rw c.as_slice.ensures.value c.in_ok-texts.ensures.distinct

pub of_texts-requires-clause-fits : goal.of_texts-requires-clause-fits
of_texts-requires-clause-fits g c = rw c.as_slice.ensures.value c.in_ok-texts.ensures.fits

pub returns-in_err-texts-clause-back : goal.returns-in_err-texts-clause-back
returns-in_err-texts-clause-back g c = λ list distinct fits written.
    let key_at = g.K.Key.key_at in
    let d = view c.args.value.now in
    let fault = only_memory key_at (TakesText key_at d ⊎ TakesPosition key_at d) d _ list c.in_err-texts.ensures.read (read_back key_at d list distinct fits written) in
    let refused = err_from_is_err_and c.from_residual.result c.from_residual.ensures.1 in
    inr (rw (refused.1, refused.2, fault) refl)

pub returns-clause-back : goal.returns-clause-back
returns-clause-back g c = λ list distinct fits written.
    let key_at = g.K.Key.key_at in
    let d = view c.args.value.now in
    let texts = map (λ t. t.now) c.in_ok-texts.texts.items in
    let one = one_reading key_at (TakesText key_at d ⊎ TakesPosition key_at d) d texts list c.in_ok-texts.ensures.read (read_back key_at d list distinct fits written) in
    inl (rw (c.in_ok-shards.ensures.opening, c.as_slice.ensures.value, one) refl)
