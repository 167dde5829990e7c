-- The returned key resolves to its text for the other pass, which has seen the first call since the two met.
use Rattle.lasso_shared.proofs.CallerLaws.{history_past}
use Rattle.test_shared.proofs.callers.resolved_by_another.Goals as goal

pub returns-clause-text : goal.returns-clause-text
returns-clause-text g c =
    c.answered_keys_resolve.ensures _ _ _ _ _ _ _ _ _ _ _ c.in_ok-key.ensures.call (history_past c.try_get_or_intern_static_as.new.pass.notes c.meet.new.self.notes c.meet.ensures.other) c.try_resolve_as.ensures.call
