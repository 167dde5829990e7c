use Rattle.lasso_codes.proofs.Feeds.{loses_part}
use Rattle.lasso_codes.proofs.streams.Input.read_until.Goals as goal

pub returns-in-Err-clause-lost : goal.returns-in-Err-clause-lost
returns-in-Err-clause-lost g c = rw (← c.self.view_is) (loses_part _ _ _ _ c.in-Err.ensures.none_lost c.in-Err.ensures.stops c.failed_unless_full.ensures.left)
