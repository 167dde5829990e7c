use Rattle.lasso_log.proofs.Reading.{none_distinct}
use Rattle.lasso_log.proofs.log.shared_log.Log.open.Goals as goal

pub open_with-log-requires-clause-distinct : goal.open_with-log-requires-clause-distinct
open_with-log-requires-clause-distinct g c = rw c.in_ok-texts.ensures.texts none_distinct
