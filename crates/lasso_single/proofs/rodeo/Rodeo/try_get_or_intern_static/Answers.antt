use Rattle.lasso_single.proofs.InternFacts.{static_key_told, static_present_idle, static_absent_last, static_account_stays, static_refused_idle, static_refused_keyless, static_never_limited, static_refused_memory}
use Rattle.lasso_single.proofs.rodeo.Rodeo.try_get_or_intern_static.Goals as goal

pub returns-clause-key : goal.returns-clause-key
returns-clause-key g c = static_key_told g.K.Key.key_at c.args.self.now c.intern_static.new.self c.args.text.now c.intern_static.result c.intern_static.ensures

pub returns-clause-present : goal.returns-clause-present
returns-clause-present g c = static_present_idle g.K.Key.key_at c.args.self.now c.intern_static.new.self c.args.text.now c.intern_static.result c.intern_static.ensures

pub returns-clause-appended : goal.returns-clause-appended
returns-clause-appended g c = static_absent_last g.K.Key.key_at c.args.self.now c.intern_static.new.self c.args.text.now c.intern_static.result c.intern_static.ensures

pub returns-clause-account : goal.returns-clause-account
returns-clause-account g c = static_account_stays g.K.Key.key_at c.args.self.now c.intern_static.new.self c.args.text.now c.intern_static.result c.intern_static.ensures

pub returns-clause-unchanged : goal.returns-clause-unchanged
returns-clause-unchanged g c = static_refused_idle g.K.Key.key_at c.args.self.now c.intern_static.new.self c.args.text.now c.intern_static.result c.intern_static.ensures

pub returns-clause-no_key : goal.returns-clause-no_key
returns-clause-no_key g c = static_refused_keyless g.K.Key.key_at c.args.self.now c.intern_static.new.self c.args.text.now c.intern_static.result c.intern_static.ensures

pub returns-clause-no_limit : goal.returns-clause-no_limit
returns-clause-no_limit g c = static_never_limited g.K.Key.key_at c.args.self.now c.intern_static.new.self c.args.text.now c.intern_static.result c.intern_static.ensures

pub returns-clause-memory : goal.returns-clause-memory
returns-clause-memory g c = static_refused_memory g.K.Key.key_at c.args.self.now c.intern_static.new.self c.args.text.now c.intern_static.result c.intern_static.ensures
