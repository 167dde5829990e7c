use Rattle.lasso_shared.proofs.MomentFacts.{added_events, refused_idle, refused_limit, refused_memory, refused_no_key, taken_events}
use Rattle.lasso_shared.proofs.PassFacts.{interned_key, seen_interned}
use Rattle.lasso_shared.proofs.threaded.ThreadedRodeo.try_get_or_intern_as.Goals as goal

pub returns-clause-key : goal.returns-clause-key
returns-clause-key g c = rw (← c.self.view_is) (interned_key g.K.Key.key_at _ _ _ _ _ _ _ c.intern-reply.ensures.call)

pub returns-clause-present : goal.returns-clause-present
returns-clause-present g c = rw (← c.self.view_is) (seen_interned g.K.Key.key_at g.K.Key.number (λ n k e. (g.met.K.Key.made n k e).2) _ _ _ _ _ _ _ c.intern-reply.ensures.call)

pub returns-clause-no_key : goal.returns-clause-no_key
returns-clause-no_key g c is = rw (← c.self.view_is) (refused_no_key g.K.Key.key_at _ _ _ _ _ _ _ c.intern-reply.ensures.call is)

pub returns-clause-limit : goal.returns-clause-limit
returns-clause-limit g c is = rw (← c.self.view_is) (refused_limit g.K.Key.key_at _ _ _ _ _ _ _ c.intern-reply.ensures.call is)

pub returns-clause-memory : goal.returns-clause-memory
returns-clause-memory g c is = rw (← c.self.view_is) (refused_memory g.K.Key.key_at _ _ _ _ _ _ _ c.intern-reply.ensures.call is)

pub returns-clause-added : goal.returns-clause-added
returns-clause-added g c = added_events g.K.Key.key_at _ _ _ _ _ _ _ c.intern-reply.ensures.call

pub returns-clause-taken : goal.returns-clause-taken
returns-clause-taken g c is = taken_events g.K.Key.key_at _ _ _ _ _ _ _ c.intern-reply.ensures.call is

pub returns-clause-idle : goal.returns-clause-idle
returns-clause-idle g c not = refused_idle g.K.Key.key_at _ _ _ _ _ _ _ c.intern-reply.ensures.call not
