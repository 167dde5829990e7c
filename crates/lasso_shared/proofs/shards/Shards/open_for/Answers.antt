-- No text is distinct.
use Rattle.lasso_log.proofs.Reading.{none_distinct}
use Rattle.lasso_shared.proofs.shards.Shards.open_for.Goals as goal

pub open_with-requires-clause-distinct : goal.open_with-requires-clause-distinct
open_with-requires-clause-distinct g c = rw c.in_ok-texts.ensures.texts none_distinct
