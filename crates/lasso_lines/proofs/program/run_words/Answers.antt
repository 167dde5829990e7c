use Rattle.std.proofs.Common.{◌≡◌, ◌∙◌, None, Some}
use Rattle.lasso_lines.proofs.Settings.{same_limit}
use Rattle.lasso_lines.proofs.program.run_words.Goals as goal

-- the limit of the run is the one that the words set
pub returns-in-Ok-None-clause-report : goal.returns-in-Ok-None-clause-report
returns-in-Ok-None-clause-report g c = λ limit input sets left.
    let set = c.in-Ok-None.field-0 in
    let same : c.new.result ≡ limit = c.new.ensures ∙ same_limit (set.limit, set.workers) (limit, None) (c.in-Ok-None.ensures.value ∙ sets) in
    rw (← same) (c.run_with_hasher.ensures.report input left)

pub returns-in-Ok-Some-clause-refused : goal.returns-in-Ok-Some-clause-refused
returns-in-Ok-Some-clause-refused g c = λ limit workers input sets left.
    let set = c.in-Ok-Some.field-0 in
    let same : c.new-in-Ok-Some.result ≡ limit = c.new-in-Ok-Some.ensures ∙ same_limit (set.limit, set.workers) (limit, Some workers) (c.in-Ok-Some.ensures.value ∙ sets) in
    rw (← same) (c.run_workers_with_hasher.ensures.refused input left)
