use Rattle.lasso_single.proofs.InternFacts.{key_told, present_idle, absent_last, absent_stored, absent_copied, refused_idle, refused_keyless, refused_limit, refused_memory}
use Rattle.lasso_single.proofs.rodeo.Rodeo.try_get_or_intern.Goals as goal

pub returns-clause-key : goal.returns-clause-key
returns-clause-key g c = key_told g.K.Key.key_at c.args.self.now c.intern.new.self c.args.text.now c.intern.result c.intern.ensures

pub returns-clause-present : goal.returns-clause-present
returns-clause-present g c = present_idle g.K.Key.key_at c.args.self.now c.intern.new.self c.args.text.now c.intern.result c.intern.ensures

pub returns-clause-appended : goal.returns-clause-appended
returns-clause-appended g c = absent_last g.K.Key.key_at c.args.self.now c.intern.new.self c.args.text.now c.intern.result c.intern.ensures

pub returns-clause-account : goal.returns-clause-account
returns-clause-account g c = absent_stored g.K.Key.key_at c.args.self.now c.intern.new.self c.args.text.now c.intern.result c.intern.ensures

pub returns-clause-copied : goal.returns-clause-copied
returns-clause-copied g c = absent_copied g.K.Key.key_at c.args.self.now c.intern.new.self c.args.text.now c.intern.result c.intern.ensures

pub returns-clause-unchanged : goal.returns-clause-unchanged
returns-clause-unchanged g c = refused_idle g.K.Key.key_at c.args.self.now c.intern.new.self c.args.text.now c.intern.result c.intern.ensures

pub returns-clause-no_key : goal.returns-clause-no_key
returns-clause-no_key g c = refused_keyless g.K.Key.key_at c.args.self.now c.intern.new.self c.args.text.now c.intern.result c.intern.ensures

pub returns-clause-limit : goal.returns-clause-limit
returns-clause-limit g c = refused_limit g.K.Key.key_at c.args.self.now c.intern.new.self c.args.text.now c.intern.result c.intern.ensures

pub returns-clause-memory : goal.returns-clause-memory
returns-clause-memory g c = refused_memory g.K.Key.key_at c.args.self.now c.intern.new.self c.args.text.now c.intern.result c.intern.ensures
